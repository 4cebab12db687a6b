-- `deepening::deepen` meets its contract: the levels above `depth` are opened (`Goes`), and behind the last the whole tree stands.
-- Assumes nothing.
use Rattle.deepening.proofs.Deepening.{Goes}
use lib.ListN.{length}
use mathlib.Core.Path.{◌≡◌}
use Rattle.deepening.proofs.deepen.Given as goal

abbrev pub invariant-loop-depth : goal.invariant-loop-depth
invariant-loop-depth l =
    (length l.room ≡ length l.initial.room) × (length l.work ≡ length l.initial.work) × Goes l.table l.index l.n l.initial.room l.initial.work l.room l.work l.lo l.hi l.depth
