-- Before row i the marks of the rows below i are joined. Assumes nothing.
use Rattle.joined_marks.proofs.Joining.{Joined}
use Rattle.joined_marks.proofs.join.Given as goal

abbrev pub invariant-loop-i : goal.invariant-loop-i
invariant-loop-i l = Joined l.how l.initial.marks l.n l.marks l.new l.i
