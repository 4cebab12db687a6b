-- `labels::label_in`: the field of the column.
use Rattle.asking.specs.Pieces.{part_of}
use Rattle.labels.proofs.Counting.{field-none}
use Rattle.labels.proofs.label_in.Goals as goal
use Rattle.line_fields.specs.Fields.{field_in}
use Rattle.std.proofs.Common.{◌∙◌}
use mathlib.Core.Path.{ap₂}

pub returns-in-Some : goal.returns-in-Some
unfolding field_in
returns-in-Some c = c.bytes_of.ensures ∙ ap₂ (part_of c.args.line.now) c.in-Some.ensures.starts c.in-Some.ensures.ends

pub returns-in-None : goal.returns-in-None
returns-in-None c = c.part.ensures ∙ field-none c.args.line.now c.args.column c.in-None.ensures
