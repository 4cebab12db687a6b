-- Before position p the rows of the positions below it are marked 2, save those withdrawn. Assumes nothing.
use Rattle.rowset.specs.Sets.{is_in_lem}
use Rattle.sweeping.proofs.Sweeps.{Sweeping}
use Rattle.sweeping.proofs.sweep_shown.Given as goal

abbrev pub invariant-loop-p : goal.invariant-loop-p
invariant-loop-p l = Sweeping (is_in_lem l.withdrawn) l.index l.base l.lo l.hi l.initial.how l.how l.p
