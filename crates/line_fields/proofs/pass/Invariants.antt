-- `line_fields::pass`: each turn passes one byte that does not stop.
use Rattle.asking.proofs.Parting.{Looking}
use Rattle.line_fields.proofs.pass.Given as goal
use Rattle.line_fields.specs.Fields.{stopping}

abbrev pub invariant-loop-i : goal.invariant-loop-i
invariant-loop-i l = Looking (stopping l.parting) l.line l.at l.i
