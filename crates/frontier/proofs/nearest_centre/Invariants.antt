-- Each round looks at one centre.
use Rattle.frontier.proofs.LeastKept.{LeastTo}
use Rattle.frontier.proofs.nearest_centre.Given as goal

abbrev pub invariant-loop-j : goal.invariant-loop-j
invariant-loop-j l = LeastTo l.index l.work l.a l.e l.j l.y
