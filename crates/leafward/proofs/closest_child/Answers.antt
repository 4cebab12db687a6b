-- `leafward::closest_child` meets its contract: of the children seen the one at `at` is the closest (`Choosing`). Assumes nothing.
use Rattle.leafward.proofs.Choosing.{choosing_done, choosing_moves, choosing_stays}
use native.Mathlib.Omega.{arith}
use Rattle.leafward.proofs.closest_child.Goals as goal
use Rattle.leafward.proofs.closest_child.Goals.{then-d-least, else-d-least}

pub loop-j-preserved : goal.loop-j-preserved
loop-j-preserved c =
    let d = c.row_distance-d.ensures.0 in
    let f = c.node_first-in-loop-j.ensures.0 in
    elim c.if-d-least.branch [
      | then-d-least w ↦ rw (w.at-is, w.least-is) (choosing_moves c.loop-j.invariant (omega arith) f d w.if-d-least.true)
      | else-d-least w ↦ rw (w.at-is, w.least-is) (choosing_stays c.loop-j.invariant (omega arith) f d w.if-d-least.false)
    ]

pub returns : goal.returns
returns c = choosing_done c.loop-j.invariant (omega arith)
