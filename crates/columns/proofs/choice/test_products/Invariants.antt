-- `columns::choice::test_products`: no row so far has a product that is too great.
use Rattle.column_products.proofs.Choosing.{Passed}
use Rattle.columns.proofs.choice.test_products.Given as goal

abbrev pub invariant-loop-i : goal.invariant-loop-i
invariant-loop-i l = Passed l.table l.c l.n l.circles l.chosen l.factors l.k l.i
