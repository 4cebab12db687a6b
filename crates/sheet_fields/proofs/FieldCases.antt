-- Odd lines, and their fields. Assumes nothing.
use Rattle.sheet_fields.specs.Fields.{cut, fields}
use Rattle.sheet_fields.specs.Kinds.{kind_of, parting, quoting, signing}
use Rattle.sheet_fields.specs.declared.Kind.TheVariants.{Digit, Other}
use mathlib.Core.List.{[], ◌∷◌, map}
use mathlib.Core.Path.{◌≡◌, refl}

-- `1;2` is two fields, `1:2` is one, `1,,3` is three
parted : (fields (map kind_of (49 ∷ 59 ∷ 50 ∷ [])) ≡ (Digit 1 ∷ []) ∷ (Digit 2 ∷ []) ∷ [])
    × (fields (map kind_of (49 ∷ 58 ∷ 50 ∷ [])) ≡ (Digit 1 ∷ Other ∷ Digit 2 ∷ []) ∷ [])
    × (fields (map kind_of (49 ∷ 44 ∷ 44 ∷ 51 ∷ [])) ≡ (Digit 1 ∷ []) ∷ [] ∷ (Digit 3 ∷ []) ∷ [])
unfolding cut fields kind_of parting quoting signing
parted = (refl, refl, refl)
