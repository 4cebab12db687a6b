-- The sum so far is the distance over the columns passed.
use Rattle.std.proofs.Common.{◌≡◌, ◌*◌, ◌≤◌}
use Rattle.measure.specs.Distance.{l1}
use Rattle.row_distances.proofs.round_columns.Given as goal

abbrev pub invariant-loop-i : goal.invariant-loop-i
invariant-loop-i l = (l.i ≤ l.c) × (l.sum ≤ 65535 * l.i) × (l.sum ≡ l1 l.i l.circles l.a l.b)
