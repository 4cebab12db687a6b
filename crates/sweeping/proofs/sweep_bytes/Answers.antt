-- `sweeping::sweep_bytes` meets its contract: no byte is lent, or one for each row; a set of no words has no row in it.
-- Assumes nothing.
use Rattle.std.proofs.Common.{arith, length, sym, false, ℕ, ◌∙◌, ◌≡◌}
use Rattle.marking.proofs.Written.{marked-bare, marked-same}
use Rattle.rowset.proofs.Rows.{beyond}
use Rattle.rowset.specs.Sets.{is_in_lem}
use Rattle.sweeping.proofs.sweep_bytes.Goals as goal
use borrow.Author.Tests.{eqb-true}

pub returns-then-is_empty : goal.returns-then-is_empty
returns-then-is_empty c =
    let a = c.args in
    marked-bare (is_in_lem a.withdrawn.now) _ a.lo a.hi a.how.now (eqb-true _ _ (sym c.if-is_empty.ensures))

pub returns-then-is_empty-2 : goal.returns-then-is_empty-2
returns-then-is_empty-2 c =
    let set = c.args.withdrawn.now in
    let none : length set ≡ 0 = eqb-true _ _ (sym c.if-is_empty-2.ensures) in
    c.sweep_all.ensures ∙ marked-same (λ (i : ℕ). false) (is_in_lem set) (λ i. sym (beyond set i (omega arith))) _ _ _ _
