-- The set comes before the row.
use Rattle.orders.proofs.Outcomes.{row_says, set_says}
use Rattle.orders.proofs.test_order.Goals as goal
use borrow.Author.Tests.{le-leb, lt-leb}
use mathlib.Core.Path.{◌∙◌, sym}
use native.Mathlib.Omega.{arith}

pub returns-then-set_bad : goal.returns-then-set_bad
returns-then-set_bad c = set_says _ _ _ (sym c.set_bad.ensures ∙ c.if-set_bad.true)

pub returns-then-n-r : goal.returns-then-n-r
returns-then-n-r c = row_says _ _ _ (sym c.set_bad.ensures ∙ c.if-set_bad.false) (le-leb c.args.n c.args.r (omega arith))

pub returns : goal.returns
returns c = row_says _ _ _ (sym c.set_bad.ensures ∙ c.if-set_bad.false) (lt-leb c.args.n c.args.r (omega arith))
