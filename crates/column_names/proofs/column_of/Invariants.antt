-- `column_names::column_of`: each turn looks at one field.
use Rattle.column_names.proofs.Names.{Named}
use Rattle.column_names.proofs.column_of.Given as goal

abbrev pub invariant-loop-k : goal.invariant-loop-k
invariant-loop-k l = Named l.line l.name l.k l.found
