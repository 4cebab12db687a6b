-- The entries before p have learnt of the new centre, and the rest are still to.
use Rattle.std.proofs.Common.{◌-◌, length}
use Rattle.measure.specs.Table.{between}
use Rattle.rounds.proofs.Nearing.{Nearing}
use Rattle.rounds.proofs.nearer.Given as goal
use Rattle.rounds.specs.Entries.{InTable}

abbrev pub invariant-loop-p : goal.invariant-loop-p
invariant-loop-p l = Nearing (InTable l.table l.c) (between l.table l.c l.circles) l.centre l.fn.part l.part l.p

abbrev pub decreases-loop-p : goal.decreases-loop-p
decreases-loop-p l = length l.part - l.p
