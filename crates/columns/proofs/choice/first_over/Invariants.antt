-- `columns::choice::first_over`: no product so far is too great.
use Rattle.column_products.specs.Chosen.{over_in}
use Rattle.columns.proofs.choice.first_over.Given as goal
use Rattle.std.proofs.Common.{◌≡◌}

abbrev pub invariant-loop-j : goal.invariant-loop-j
invariant-loop-j l = over_in l.row l.circles l.chosen l.factors l.j ≡ l.j
