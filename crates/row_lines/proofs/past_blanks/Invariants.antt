-- `row_lines::past_blanks`: each turn passes one blank.
use Rattle.asking.proofs.Parting.{Looking}
use Rattle.row_lines.proofs.past_blanks.Given as goal
use Rattle.std.proofs.Common.{eqb, not, ℕ}

abbrev pub invariant-loop-i : goal.invariant-loop-i
invariant-loop-i l = Looking (λ (x : ℕ). not (eqb x 32)) l.line l.at l.i
