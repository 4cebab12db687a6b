-- The least of the distances passed. Assumes nothing.
use Rattle.std.proofs.Common.{get_or, take, ◌≡◌}
use Rattle.laws.specs.Lists.{least}
use Rattle.opened.proofs.centres.least_of.Given as goal

abbrev pub invariant-loop-d : goal.invariant-loop-d
invariant-loop-d l = l.y ≡ least (get_or l.fn.distances 0 0) (take l.d-index l.d-items)
