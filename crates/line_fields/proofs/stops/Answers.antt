-- `line_fields::stops`: the test, or its opposite.
use Rattle.std.proofs.Common.{◌∙◌, ◌≡◌, Bool, false, not, refl, true}
use Rattle.line_fields.proofs.stops.Goals as goal
use Rattle.line_fields.specs.Fields.{stopping}
use mathlib.Core.Bool.{beq, cond}

-- a test that is compared with what it shall be
as_told : (a b : Bool) → beq a b ≡ cond b a (not a)
as_told true true = refl
as_told true false = refl
as_told false true = refl
as_told false false = refl

pub returns : goal.returns
unfolding stopping
returns c = as_told c.parts.result c.args.parting ∙ rw c.parts.ensures refl
