-- `regrow::levels` meets its contract: the levels above `depth` are opened (`Goes`), and behind the last the whole tree stands.
-- Assumes nothing.
use Rattle.regrow.proofs.Going.{Goes}
use lib.ListN.{length}
use mathlib.Core.Path.{◌≡◌}
use Rattle.regrow.proofs.levels.Given as goal

abbrev pub invariant-loop : goal.invariant-loop
invariant-loop l =
    (length l.room ≡ length l.initial.room) × (length l.work ≡ length l.initial.work) × Goes l.table l.index l.p.node l.p.added l.p.limit l.initial.room l.initial.work l.room l.work l.lo l.hi l.counter
