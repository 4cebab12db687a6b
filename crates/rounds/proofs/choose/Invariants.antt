-- After r rounds, the rounds that are left on what is left give the whole.
use Rattle.measure.specs.Table.{between}
use Rattle.rounds.proofs.Choosing.{Choosing}
use Rattle.rounds.proofs.choose.Given as goal
use Rattle.rounds.specs.Entries.{InTable}

abbrev pub invariant-loop-r : goal.invariant-loop-r
invariant-loop-r l = Choosing (InTable l.table l.c) (between l.table l.c l.circles) l.m l.early l.fn.run l.run l.r
