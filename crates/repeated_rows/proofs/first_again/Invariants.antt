use Rattle.repeated_rows.proofs.Marks.{Marks}
use Rattle.repeated_rows.proofs.first_again.Given as goal

-- marked are just the rows of the positions passed, none of them again
abbrev pub invariant-loop-p : goal.invariant-loop-p
invariant-loop-p l = Marks l.index l.fn.work l.work l.p
