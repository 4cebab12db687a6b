-- `deepening::level` meets its contract: the nodes before k are opened (`Turn`), and behind the last the stage is one level down.
-- Assumes nothing.
use Rattle.deepening.proofs.Levelling.{Turn}
use lib.ListN.{length}
use mathlib.Core.Path.{◌≡◌}
use Rattle.deepening.proofs.level.Given as goal

abbrev pub invariant-loop-k : goal.invariant-loop-k
invariant-loop-k l =
    (length l.room ≡ length l.initial.room) × (length l.work ≡ length l.initial.work) × Turn l.table l.index l.n l.last l.initial.room l.initial.work l.lo l.hi l.room l.work l.made l.k
