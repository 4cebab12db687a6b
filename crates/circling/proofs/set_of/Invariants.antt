-- `circling::set_of`: the places so far have their bits.
use Rattle.circle_columns.specs.Circles.{Bits}
use Rattle.circling.proofs.set_of.Given as goal

abbrev pub invariant-loop-j : goal.invariant-loop-j
invariant-loop-j l = Bits l.names l.c l.list l.chosen l.j l.set
