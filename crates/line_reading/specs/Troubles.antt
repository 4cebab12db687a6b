-- What is wrong with the fields of a line: the leftmost in which something is. Assumes nothing.
use Rattle.std.specs.Prelude.{◌+◌, ℕ, eqb, leb, cond, List, [], ◌∷◌}
use Rattle.sheet_fields.specs.declared.Kind.{Kind}
use Rattle.line_reading.specs.declared.Trouble.{Trouble}

-- nothing
abbrev pub none : Trouble
none = record { kind = 0; column = 0 }

-- the leftmost field in which something is wrong, the first of these being column j + 1: one too many is wrong in itself (3)
unfoldable pub trouble : (ℕ → List Kind → ℕ) → ℕ → List (List Kind) → Trouble
trouble wrong j [] = none
trouble wrong j (f ∷ fs) =
    cond (leb 16 j) (record { kind = 3; column = 17 })
    (cond (eqb (wrong j f) 0) (trouble wrong (j + 1) fs) (record { kind = wrong j f; column = j + 1 }))
