-- Each turn passes one byte that is another.
use Rattle.std.proofs.Common.{ℕ}
use Rattle.asking.proofs.Parting.{Looking}
use Rattle.asking.proofs.pieces.end_from.Given as goal
use lib.Dec.{eqb}

abbrev pub invariant-loop-i : goal.invariant-loop-i
invariant-loop-i l = Looking (λ (x : ℕ). eqb x l.b) l.t l.at l.i
