-- The entries before p are dealt with, and what is picked from the rest is still to be written.
use Rattle.std.proofs.Common.{◌-◌}
use Rattle.groups.proofs.Picks.{Picks}
use Rattle.groups.proofs.pick.Given as goal

abbrev pub invariant-loop-p : goal.invariant-loop-p
invariant-loop-p l = Picks l.fn.work l.lo l.hi l.centre l.to l.work l.count l.radius l.inner l.p

abbrev pub decreases-loop-p : goal.decreases-loop-p
decreases-loop-p l = l.hi - l.p
