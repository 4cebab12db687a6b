-- Before position p the rows of the positions below it are listed, save those withdrawn. Assumes nothing.
use Rattle.rowset.specs.Sets.{is_in_lem}
use Rattle.sweeping.proofs.Sweeps.{Listing}
use Rattle.sweeping.proofs.sweep_list.Given as goal

abbrev pub invariant-loop-p : goal.invariant-loop-p
invariant-loop-p l = Listing (is_in_lem l.withdrawn) l.index l.base l.lo l.hi l.initial.list l.list l.p
