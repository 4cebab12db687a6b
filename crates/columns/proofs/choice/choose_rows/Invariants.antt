-- `columns::choice::choose_rows`: the rows laid so far, and behind them the table as it was.
use Rattle.column_products.proofs.Laying.{Laid}
use Rattle.columns.proofs.choice.choose_rows.Given as goal

abbrev pub invariant-loop-i : goal.invariant-loop-i
invariant-loop-i l = Laid l.initial.table l.c l.n l.chosen l.factors l.k l.table l.at l.i
