-- Before position p the rows of the positions below it are marked 2. Assumes nothing.
use Rattle.std.proofs.Common.{ℕ, false}
use Rattle.sweeping.proofs.Sweeps.{Sweeping}
use Rattle.sweeping.proofs.sweep_all.Given as goal

abbrev pub invariant-loop-p : goal.invariant-loop-p
invariant-loop-p l = Sweeping (λ (i : ℕ). false) l.index l.base l.lo l.hi l.initial.how l.how l.p
