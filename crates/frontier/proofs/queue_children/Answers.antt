-- `frontier::queue_children` meets its contract: each round queues one node, under the bound of its kept distance.
use Rattle.std.proofs.Common.{arith, refl}
use Rattle.frontier.proofs.Queueing.{node_entry, queued-done, queued-step}
use Rattle.frontier.proofs.queue_children.Goals as goal

pub loop-j-preserved : goal.loop-j-preserved
loop-j-preserved c =
    let pre = c.requires in
    let loop = c.loop-j in
    let node-first = c.node_first-r in
    let kid-bound = c.kid_bound-key in
    let push-due = c.push_due-size in
    queued-step _ _ _ _ _ _ _ _ _ loop.invariant _ _ _ (omega arith)
    (node_entry _ _ _ _ _ _ _ _ _ _ _ _ _ _ _ pre.frontier_room loop.invariant node-first.ensures.0 refl kid-bound.ensures)
    push-due.ensures

pub returns : goal.returns
returns c =
    queued-done _ _ _ _ _ _ _ _ _ c.loop-j.invariant (omega arith)
