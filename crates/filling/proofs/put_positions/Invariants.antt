-- The pairs of p positions are written.
use Rattle.filling.proofs.Pairing.{Pairing}
use Rattle.filling.proofs.put_positions.Given as goal

abbrev pub invariant-loop-p : goal.invariant-loop-p
invariant-loop-p l = Pairing l.n l.work l.fn.part l.part l.p
