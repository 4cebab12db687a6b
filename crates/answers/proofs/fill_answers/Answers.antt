-- `answers::fill_answers` meets its contract: turn i puts record i behind the first i. Assumes nothing.
use Rattle.std.proofs.Common.{List, ◌<◌, ◌∙◌, ◌≡◌, ◌++◌, add-one, ap, arith, drop, length, refl, sym, ℕ}
use Rattle.answers.proofs.Records.{records-store}
use Rattle.answers.proofs.fill_answers.Goals as goal
use Rattle.answers.specs.Records.{made, records}
use Rattle.answers.specs.declared.Answer.{Answer}
use Rattle.std.proofs.Math.ListN.{get_or, set}

pub loop-i-init : goal.loop-i-init
loop-i-init c = (omega arith, refl)

pub loop-i-preserved : goal.loop-i-preserved
loop-i-preserved c =
    let l = c.loop-i in
    let rs = c.args.rows.now in
    let ds = c.args.distances.now in
    let as₀ = c.args.answers.now in
    let h : l.i < length as₀ = omega arith in (
      omega arith,
      ap (λ (z : List Answer). set z l.i (made (get_or rs l.i 0) (get_or ds l.i 0))) l.invariant.1 ∙ records-store rs ds as₀ l.i h
          ∙ ap (λ (k : ℕ). records rs ds k ++ drop k as₀) (sym (add-one l.i)),
    )

pub returns : goal.returns
returns c =
    let e : c.loop-i.i ≡ c.args.count = omega arith in
    rw e at c.loop-i.invariant.1
