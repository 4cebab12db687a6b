-- What one byte of a line is. Assumes nothing.
use Rattle.std.specs.Prelude.{◌-◌, ℕ, eqb, Bool, ◌||◌, cond}
use Rattle.limits.specs.Limits.{within}
use Rattle.sheet_fields.specs.declared.Kind.TheVariants.{Blank, Digit, Other, Parting, Quote, Sign}
use Rattle.sheet_fields.specs.declared.Kind.{Kind}

-- a comma, a semicolon or a tab parts two fields
unfoldable pub parting : ℕ → Bool
parting b = eqb b 44 || (eqb b 59 || eqb b 9)

-- a plus, a minus or a point
unfoldable pub signing : ℕ → Bool
signing b = eqb b 43 || (eqb b 45 || eqb b 46)

-- a double or a single quote
unfoldable pub quoting : ℕ → Bool
quoting b = eqb b 34 || eqb b 39

-- a digit's byte is 48 more than the digit; a blank is a space
unfoldable pub kind_of : ℕ → Kind
kind_of b = cond (within 48 57 b) (Digit (b - 48)) (cond (eqb b 32) Blank (cond (parting b) Parting (cond (signing b) Sign (cond (quoting b) Quote Other))))
