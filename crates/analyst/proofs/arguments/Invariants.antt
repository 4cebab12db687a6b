-- What is put stays inside the room.
use Rattle.std.proofs.Common.{◌≤◌, length}
use Rattle.analyst.proofs.arguments.Given as goal

abbrev pub invariant-loop-i : goal.invariant-loop-i
invariant-loop-i g l = l.length ≤ length l.room
