-- `frontier::nearest_centre` meets its contract: each round looks at one centre.
use Rattle.std.proofs.Common.{arith}
use Rattle.frontier.proofs.LeastKept.{least_step}
use Rattle.frontier.proofs.nearest_centre.Goals as goal

pub loop-j-preserved : goal.loop-j-preserved
loop-j-preserved c = least_step _ _ _ _ _ c.requires.1 _ _ _ _ c.loop-j.invariant (omega arith) c.node_first-r.ensures.0 c.min-y.ensures
