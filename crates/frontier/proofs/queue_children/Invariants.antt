-- Each round queues one node, under the bound of its kept distance.
use Rattle.std.proofs.Common.{ℕ, ◌+◌}
use Rattle.frontier.proofs.Queueing.{QueuedTo}
use Rattle.frontier.specs.Waiting.{noded}
use Rattle.frontier.proofs.queue_children.Given as goal

abbrev pub invariant-loop-j : goal.invariant-loop-j
invariant-loop-j l = QueuedTo l.initial.work l.work l.len l.a l.e (λ (i : ℕ). noded l.index l.initial.work l.b l.y (l.a + i)) l.last l.j l.size
