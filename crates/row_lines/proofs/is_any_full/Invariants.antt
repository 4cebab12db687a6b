-- `row_lines::is_any_full`: each turn passes one blank line.
use Rattle.row_lines.proofs.Places.{Going}
use Rattle.row_lines.proofs.is_any_full.Given as goal
use Rattle.std.proofs.Common.{◌-◌, length}

abbrev pub invariant-loop-at : goal.invariant-loop-at
invariant-loop-at l = Going l.t l.fn.i l.at

abbrev pub decreases-loop-at : goal.decreases-loop-at
decreases-loop-at l = length l.t - l.at
