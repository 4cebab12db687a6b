-- `marking::row::enter` meets its contract: there is room, and the row stands behind those that are listed, or there is none.
-- Assumes nothing.
use Rattle.std.proofs.Common.{arith, length, refl, sym, ◌≡◌}
use Rattle.marking.proofs.Listed.{enter-in, enter-out}
use Rattle.marking.proofs.row.enter.Goals as goal
use borrow.Author.Tests.{eqb-true}

pub returns-then-is_empty : goal.returns-then-is_empty
returns-then-is_empty c =
    let none : length c.args.list.now ≡ 0 = eqb-true _ _ (sym c.if-is_empty.ensures) in
    enter-out _ _ _ refl (omega arith)

pub returns-then-k-min : goal.returns-then-k-min
returns-then-k-min c = enter-in _ _ _ refl (omega (arith, c.min.ensures)) refl

pub returns-else-k-min : goal.returns-else-k-min
returns-else-k-min c = enter-out _ _ _ refl (omega (arith, c.min.ensures))
