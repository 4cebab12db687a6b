-- `leafward::closest_child` meets its contract: of the children seen the one at `at` is the closest (`Choosing`). Assumes nothing.
use Rattle.leafward.proofs.Choosing.{Choosing}
use Rattle.leafward.proofs.closest_child.Given as goal

abbrev pub invariant-loop-j : goal.invariant-loop-j
invariant-loop-j l = Choosing l.table l.c l.index l.k l.z l.child l.m l.set l.at l.least l.j
