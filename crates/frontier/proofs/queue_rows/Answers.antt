-- `frontier::queue_rows` meets its contract: each round queues one position, under its own bound.
use Rattle.std.proofs.Common.{arith}
use Rattle.frontier.proofs.Queueing.{place_entry, queued-done, queued-step}
use Rattle.words.proofs.Positions.{dist-word}
use Rattle.frontier.proofs.queue_rows.Goals as goal

pub loop-p-preserved : goal.loop-p-preserved
loop-p-preserved c =
    queued-step _ _ _ _ _ _ _ _ _ c.loop-p.invariant _ _ _ (omega (arith, c.loop-p-test.true))
    (place_entry _ _ _ _ _ _ _ _ _ _ _ c.requires.frontier_room c.loop-p.invariant.low
    (dist-word c.args.index.now _ _ c.pair_at-base.ensures) c.place_bound-key.ensures) c.push_due-size.ensures

pub returns : goal.returns
returns c = queued-done _ _ _ _ _ _ _ _ _ c.loop-p.invariant (omega arith)
