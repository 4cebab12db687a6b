-- The counters hold the tallies of the bytes passed, and a byte holds them. Assumes nothing.
use Rattle.std.proofs.Common.{take, ◌≡◌, ◌≤◌}
use Rattle.tallies.proofs.count_block.Given as goal
use Rattle.tree.specs.Nearest.{measured}
use Rattle.tree.specs.Radius.{inside}

abbrev pub invariant-loop-how : goal.invariant-loop-how
invariant-loop-how l =
    (l.inside ≤ l.how-index) × (l.measured ≤ l.how-index)
    × (l.inside ≡ inside (take l.how-index l.block)) × (l.measured ≡ measured (take l.how-index l.block))
