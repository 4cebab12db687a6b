-- Odd texts, and what they say. Assumes nothing.
use Prim.Native.Nat.{ℕ}
use Rattle.sheet_fields.specs.Fields.{as_name, as_number, as_row, cut, fields, grown_by, value, worths}
use Rattle.sheet_fields.specs.Kinds.{kind_of, parting, quoting, signing}
use Rattle.sheet_reading.specs.Lines.{body, kept, lines, named, unmarked}
use Rattle.line_reading.specs.Troubles.{trouble}
use Rattle.sheet_reading.specs.Says.{Told, differs, line_trouble, or_row, row_trouble_lem, says, stopped, told, told_all, told_by, told_names}
use mathlib.Core.List.{[], ◌∷◌}
use mathlib.Core.Path.{◌≡◌, refl}

-- this is wrong, in this line and column, in a text of so many columns
abbrev wrong : ℕ → ℕ → ℕ → ℕ → Told
wrong kind line column columns = record { kind = kind; line = line; column = column; columns = columns; rs = [] }

-- `1,,3`, `,2,3`, `7,8,`, a comma alone, and 1 and 2 with a blank line between them
empty_places : (says 0 99 (49 ∷ 44 ∷ 44 ∷ 51 ∷ []) ≡ wrong 7 1 2 0)
    × (says 0 99 (44 ∷ 50 ∷ 44 ∷ 51 ∷ []) ≡ wrong 7 1 1 0)
    × (says 0 99 (55 ∷ 44 ∷ 56 ∷ 44 ∷ []) ≡ wrong 7 1 3 0)
    × (says 0 99 (44 ∷ []) ≡ wrong 7 1 1 0)
    × (says 0 99 (49 ∷ 10 ∷ 10 ∷ 50 ∷ []) ≡ record { kind = 7; line = 2; column = 1; columns = 1; rs = (1 ∷ []) ∷ [] })
unfolding says told_all told told_by told_names stopped line_trouble trouble or_row row_trouble_lem differs lines kept unmarked body named cut fields value grown_by as_number as_name as_row worths kind_of parting quoting signing
empty_places = (refl, refl, refl, refl, refl)

-- a first row is no names: `1.5,2`, `-1,2`, `1;2`, and 1 behind the mark, with a carriage return and a newline
first_rows : (says 0 99 (49 ∷ 46 ∷ 53 ∷ 44 ∷ 50 ∷ []) ≡ wrong 1 1 1 0)
    × (says 0 99 (45 ∷ 49 ∷ 44 ∷ 50 ∷ []) ≡ wrong 1 1 1 0)
    × (says 0 99 (49 ∷ 59 ∷ 50 ∷ []) ≡ record { kind = 0; line = 2; column = 0; columns = 2; rs = (1 ∷ 2 ∷ []) ∷ [] })
    × (says 0 99 (239 ∷ 187 ∷ 191 ∷ 49 ∷ 13 ∷ 10 ∷ []) ≡ record { kind = 0; line = 2; column = 0; columns = 1; rs = (1 ∷ []) ∷ [] })
unfolding says told_all told told_by told_names stopped line_trouble trouble or_row row_trouble_lem differs lines kept unmarked body named cut fields value grown_by as_number as_name as_row worths kind_of parting quoting signing
first_rows = (refl, refl, refl, refl)

-- `a;b` above `1,5;2`, so that a decimal comma shows itself; `a,b` above `007 8`; names alone; and nothing
names_above : (says 0 99 (97 ∷ 59 ∷ 98 ∷ 10 ∷ 49 ∷ 44 ∷ 53 ∷ 59 ∷ 50 ∷ []) ≡ wrong 4 2 3 2)
    × (says 0 99 (97 ∷ 44 ∷ 98 ∷ 10 ∷ 48 ∷ 48 ∷ 55 ∷ 32 ∷ 56 ∷ [])
    ≡ record { kind = 0; line = 3; column = 0; columns = 2; rs = (7 ∷ 8 ∷ []) ∷ [] })
    × (says 0 99 (97 ∷ 10 ∷ []) ≡ wrong 8 2 1 1)
    × (says 0 99 [] ≡ wrong 8 1 1 0)
unfolding says told_all told told_by told_names stopped line_trouble trouble or_row row_trouble_lem differs lines kept unmarked body named cut fields value grown_by as_number as_name as_row worths kind_of parting quoting signing
names_above = (refl, refl, refl, refl)

-- column 1 holds a label: `x9,5`, `12.5,7` below names, an empty label, and a number beside it that is none
labels : (says 1 99 (120 ∷ 57 ∷ 44 ∷ 53 ∷ 10 ∷ 45 ∷ 44 ∷ 54 ∷ [])
    ≡ record { kind = 0; line = 3; column = 0; columns = 2; rs = (0 ∷ 5 ∷ []) ∷ (0 ∷ 6 ∷ []) ∷ [] })
    × (says 1 99 (49 ∷ 44 ∷ 53 ∷ 10 ∷ 44 ∷ 54 ∷ []) ≡ record { kind = 7; line = 2; column = 1; columns = 2; rs = (0 ∷ 5 ∷ []) ∷ [] })
    × (says 1 99 (49 ∷ 44 ∷ 120 ∷ []) ≡ wrong 1 1 2 0)
unfolding says told_all told told_by told_names stopped line_trouble trouble or_row row_trouble_lem differs lines kept unmarked body named cut fields value grown_by as_number as_name as_row worths kind_of parting quoting signing
labels = (refl, refl, refl)

-- numbers in quotes are no names: `"1","2"` above 3,4, and `'-1'`; names in quotes are
quoted : (says 0 99 (34 ∷ 49 ∷ 34 ∷ 44 ∷ 34 ∷ 50 ∷ 34 ∷ 10 ∷ 51 ∷ 44 ∷ 52 ∷ []) ≡ wrong 1 1 1 0)
    × (says 0 99 (39 ∷ 45 ∷ 49 ∷ 39 ∷ []) ≡ wrong 1 1 1 0)
    × (says 0 99 (34 ∷ 97 ∷ 34 ∷ 10 ∷ 55 ∷ []) ≡ record { kind = 0; line = 3; column = 0; columns = 1; rs = (7 ∷ []) ∷ [] })
unfolding says told_all told told_by told_names stopped line_trouble trouble or_row row_trouble_lem differs lines kept unmarked body named cut fields value grown_by as_number as_name as_row worths kind_of parting quoting signing
quoted = (refl, refl, refl)
