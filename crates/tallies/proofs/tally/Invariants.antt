-- The counters hold the tallies of the bytes before byte i, where a block ends. Assumes nothing.
use Rattle.std.proofs.Common.{take, ◌-◌, ◌≡◌, ◌≤◌}
use Rattle.tallies.proofs.tally.Given as goal
use Rattle.tree.specs.Nearest.{measured}
use Rattle.tree.specs.Radius.{inside}

abbrev pub invariant-loop-i : goal.invariant-loop-i
invariant-loop-i l = (l.i ≤ l.n) × (l.inside ≡ inside (take l.i l.how)) × (l.measured ≡ measured (take l.i l.how))

abbrev pub decreases-loop-i : goal.decreases-loop-i
decreases-loop-i l = l.n - l.i
