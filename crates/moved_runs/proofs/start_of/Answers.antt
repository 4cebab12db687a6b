-- `moved_runs::start_of` meets its contract: a run behind node v's has moved, any other has not. Assumes nothing.
use Rattle.moved_runs.proofs.Runs.{start-moved, start-stays}
use Rattle.moved_runs.proofs.start_of.Goals as goal
use native.Mathlib.Omega.{arith}

pub returns-then-node_end-s : goal.returns-then-node_end-s
returns-then-node_end-s c =
    let k = c.requires.in_shape.node c.args.k c.requires.v_bound.1 in
    let e = c.node_start-s.ensures.0 in
    (start-moved _ _ _ _ e c.node_end.ensures c.if-node_end-s.true, omega (arith, k.run, e))

pub returns-else-node_end-s : goal.returns-else-node_end-s
returns-else-node_end-s c =
    let k = c.requires.in_shape.node c.args.k c.requires.v_bound.1 in
    let e = c.node_start-s.ensures.0 in
    (start-stays _ _ _ _ e c.node_end.ensures c.if-node_end-s.false, omega (arith, k.run, e))
