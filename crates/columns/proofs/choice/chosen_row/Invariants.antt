-- `columns::choice::chosen_row`: the chosen columns taken so far.
use Rattle.column_products.proofs.Laying.{Taken}
use Rattle.columns.proofs.choice.chosen_row.Given as goal

abbrev pub invariant-loop-j : goal.invariant-loop-j
invariant-loop-j l = Taken l.row l.chosen l.factors l.k l.initial.out l.out l.j
