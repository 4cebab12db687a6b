-- Each round unmarks one row of the list.
use Rattle.rows_listed.proofs.MetRows.{UnmarkedTo}
use Rattle.rows_listed.proofs.unmark.Given as goal

abbrev pub invariant-loop-i : goal.invariant-loop-i
invariant-loop-i l = UnmarkedTo l.n l.initial.how l.how l.work l.met l.i
