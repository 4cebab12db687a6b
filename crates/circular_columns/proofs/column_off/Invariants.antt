-- What was found so far is what the rows passed hold.
use Rattle.std.proofs.Common.{◌≡◌}
use Rattle.circular_columns.proofs.column_off.Given as goal
use Rattle.measure.specs.Table.{column_off_lem}

abbrev pub invariant-loop-i : goal.invariant-loop-i
invariant-loop-i l = l.off ≡ column_off_lem l.table l.c l.i l.j
