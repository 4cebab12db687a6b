-- The search comes down from the end, and b is the farthest from p on.
use Rattle.rounds.proofs.Seeking.{Seeking}
use Rattle.rounds.proofs.farthest.Given as goal

abbrev pub invariant-loop-p : goal.invariant-loop-p
invariant-loop-p l = Seeking l.part l.p l.b

abbrev pub decreases-loop-p : goal.decreases-loop-p
decreases-loop-p l = l.p
