-- Each round queues one position, under its own bound.
use Rattle.std.proofs.Common.{suc, ℕ, ◌+◌}
use Rattle.frontier.proofs.Queueing.{QueuedTo}
use Rattle.frontier.specs.Waiting.{placed}
use Rattle.frontier.proofs.queue_rows.Given as goal

abbrev pub invariant-loop-p : goal.invariant-loop-p
invariant-loop-p l =
    QueuedTo l.initial.work l.work l.len (l.s + 1) l.e (λ (i : ℕ). placed l.index l.b l.x (l.s + suc i)) l.last l.p l.size
