-- `line_fields::field_of`: each turn passes one field.
use Rattle.line_fields.proofs.Spans.{Passing}
use Rattle.line_fields.proofs.field_of.Given as goal
use Rattle.std.proofs.Common.{◌≤◌, max}

abbrev pub invariant-loop : goal.invariant-loop
invariant-loop l = Passing l.line l.counter l.start l.end × (l.counter ≤ max l.column 1)
