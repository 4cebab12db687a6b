-- 14 and 15 first, and where neither is given the words decide.
use Rattle.std.proofs.Common.{subst, sym, ◌∙◌, arith}
use Rattle.blocks.proofs.Wrong.{wrong-none, wrong_some}
use Rattle.image.proofs.Refusals.{by-held, fifteen, fourteen-empty, fourteen-ragged, sound-refused}
use Rattle.image.proofs.reading.check_image.Goals as goal
use Rattle.image.proofs.reading.check_image.Goals.{then-is_empty-via-then-is_empty, then-is_empty-via-else-is_empty+then-image-ne0}
use Rattle.image.specs.Sound.{Sound}
use Rattle.limits.specs.Refusal.{count_of, outcome}
use borrow.Author.Tests.{eqb-false, eqb-true}

pub returns-then-is_empty : goal.returns-then-is_empty
returns-then-is_empty c =
    elim c.then-is_empty.branch [
      | then-is_empty-via-then-is_empty w ↦ sound-refused _ _ 14 0 (λ q. omega arith) (fourteen-empty c.args.image.now (eqb-true _ 0 (sym c.is_empty.ensures ∙ w.if-is_empty.true)))
      | then-is_empty-via-else-is_empty+then-image-ne0 w ↦ sound-refused _ _ 14 0 (λ q. omega arith) (fourteen-ragged _ w.if-image-ne0.true)
    ]

pub returns-in-Some : goal.returns-in-Some
returns-in-Some c = sound-refused _ _ 15 c.in-Some.b (λ q. omega arith) (fifteen c.args.image.now (eqb-false _ 0 (sym c.is_empty.ensures ∙ c.if-is_empty.false)) c.if-image-ne0.false _ (wrong_some _ _ (sym c.in-Some.ensures)))

pub returns-in-None : goal.returns-in-None
returns-in-None c =
    let i = c.args.image.now in
    let r = c.check_held.result in
    subst (λ fs. Sound i fs (outcome r).0 (outcome r).1 (count_of r))
    (sym (by-held i (eqb-false _ 0 (sym c.is_empty.ensures ∙ c.if-is_empty.false)) c.if-image-ne0.false (wrong-none _ (sym c.in-None.ensures)))) c.check_held.ensures
