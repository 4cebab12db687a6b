-- `moved_runs::count_of` meets its contract: a run that holds node v's has the added rows, any other has not. Assumes nothing.
use Rattle.moved_runs.proofs.Runs.{count-more, count-stays}
use Rattle.moved_runs.proofs.count_of.Goals as goal
use native.Mathlib.Omega.{arith}

pub returns-then-holds_run : goal.returns-then-holds_run
returns-then-holds_run c =
    let k = c.requires.in_shape.node c.args.k c.requires.v_bound.1 in
    let e = c.node_count-count.ensures.0 in
    (count-more _ _ _ _ e c.holds_run.ensures c.if-holds_run.true, omega (arith, k.run, e))

pub returns-else-holds_run : goal.returns-else-holds_run
returns-else-holds_run c =
    let k = c.requires.in_shape.node c.args.k c.requires.v_bound.1 in
    let e = c.node_count-count.ensures.0 in
    (count-stays _ _ _ _ e c.holds_run.ensures c.if-holds_run.false, omega (arith, k.run, e))
