-- `marking::row::mark_measured` meets its contract: what it leaves is the mark of the number given, as far as it is shown.
-- Assumes nothing.
use Rattle.std.proofs.Common.{ap, sym, cond, [], ◌∷◌}
use Rattle.std.proofs.lemmas.Bool.{not_from_false, not_from_true}
use Rattle.marking.proofs.Listed.{leaves-as, leaves-far, leaves-hidden, leaves-near}
use Rattle.marking.proofs.row.mark_measured.Goals as goal
use Rattle.marking.proofs.row.mark_measured.Goals.{else-x-r-via-else-x-r, else-x-r-via-then-x-r+else-not-is_in}
use borrow.Author.Tests.{le-leb, lt-leb, not-false, not-true}

pub returns-then-not-is_in : goal.returns-then-not-is_in
returns-then-not-is_in c =
    let a = c.args in
    leaves-as _ _ (ap (λ t. (a.row, cond t 3 1) ∷ []) (sym (le-leb a.x a.r c.if-x-r.true)))
    (leaves-near _ _ a.row c.is_in.ensures (not-true _ (not_from_false _ c.if-not-is_in.true)) c.put.ensures c.enter.ensures)

pub returns-else-x-r : goal.returns-else-x-r
returns-else-x-r c =
    let a = c.args in
    elim c.else-x-r.branch [
      | else-x-r-via-then-x-r+else-not-is_in w ↦
          leaves-as _ _ (ap (λ t. (a.row, cond t 3 1) ∷ []) (sym (le-leb a.x a.r w.if-x-r.true)))
          (leaves-hidden _ _ a.row w.is_in.ensures (not-false _ (not_from_true _ w.if-not-is_in.false)) c.put-else-x-r.ensures)
      | else-x-r-via-else-x-r w ↦
          leaves-as _ _ (ap (λ t. (a.row, cond t 3 1) ∷ []) (sym (lt-leb a.x a.r w.if-x-r.false))) (leaves-far _ _ a.row c.put-else-x-r.ensures)
    ]
