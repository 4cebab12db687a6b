-- What is kept never goes beyond the buffer.
use Rattle.std.proofs.Common.{◌≤◌, length}
use Rattle.lister.proofs.read_text.Given as goal

abbrev pub invariant-loop : goal.invariant-loop
invariant-loop g l = l.kept ≤ length l.text
