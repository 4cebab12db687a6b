-- i rows are laid, with the greatest and the least distance so far.
use Rattle.growing.proofs.Laying.{Laying}
use Rattle.growing.proofs.lay.Given as goal
use Rattle.measure.specs.Table.{between}

abbrev pub invariant-loop-i : goal.invariant-loop-i
invariant-loop-i l = Laying (between l.table l.c l.circles) l.n l.fn.work l.work l.radius l.inner l.i
