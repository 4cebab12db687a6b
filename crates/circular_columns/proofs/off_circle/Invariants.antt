-- What was found so far is what the columns passed hold.
use Rattle.std.proofs.Common.{◌≡◌, ◌&&◌}
use Rattle.circular_columns.proofs.off_circle.Given as goal
use Rattle.laws.specs.Lists.{any, range}
use Rattle.measure.specs.Distance.{is_circle_lem}
use Rattle.measure.specs.Table.{column_off_lem, rows_of}

abbrev pub invariant-loop-j : goal.invariant-loop-j
invariant-loop-j l = l.off ≡ any (λ j. is_circle_lem l.circles j && column_off_lem l.table l.c (rows_of l.table l.c) j) (range 0 l.j)
