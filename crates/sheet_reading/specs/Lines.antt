-- The lines of a text. A text is a list of bytes. Assumes nothing.
use Rattle.std.specs.Prelude.{ℕ, eqb, Bool, ◌&&◌, cond, false, not, true, List, [], ◌∷◌, map}
use Rattle.laws.specs.Lists.{all, any}
use Rattle.sheet_fields.specs.Fields.{cut_up, fields, figured, is_blank_lem, worths}
use Rattle.sheet_fields.specs.Kinds.{kind_of}
use Rattle.sheet_fields.specs.declared.Kind.{Kind}

-- ---- what is passed over
-- the three bytes EF BB BF at the start of a text
unfoldable pub unmarked : List ℕ → List ℕ
unmarked [] = []
unmarked (a ∷ []) = a ∷ []
unmarked (a ∷ b ∷ []) = a ∷ b ∷ []
unmarked (a ∷ b ∷ c ∷ t) = cond (eqb a 239 && (eqb b 187 && eqb c 191)) t (a ∷ b ∷ c ∷ t)

-- a carriage return at the end of a line
unfoldable pub body : List ℕ → List ℕ
body [] = []
body (b ∷ []) = cond (eqb b 13) [] (b ∷ [])
body (b ∷ c ∷ t) = b ∷ body (c ∷ t)

-- ---- a line
-- what its bytes are
abbrev pub kinds : List ℕ → List Kind
kinds l = map kind_of (body l)

-- it has blanks alone
abbrev pub blank_line : List ℕ → Bool
blank_line l = all is_blank_lem (kinds l)

-- its fields
abbrev pub fields_of : List ℕ → List (List Kind)
fields_of l = fields (kinds l)

-- the numbers that it says, where the column `label` holds a label
abbrev pub numbers : ℕ → List ℕ → List ℕ
numbers label l = worths label 0 (fields_of l)

-- as a text's first line it is names: no field begins with a digit, a sign or a point
unfoldable pub named : List ℕ → Bool
named l = not (any figured (fields_of l))

-- ---- the lines
-- one line more in front of the others: it is left off if it is blank and none is behind it
abbrev pub onto : Bool → List ℕ → List (List ℕ) → List (List ℕ)
onto true l [] = []
onto false l [] = l ∷ []
onto blank l (m ∷ ms) = l ∷ m ∷ ms

-- without the blank lines at the end
unfoldable pub kept : List (List ℕ) → List (List ℕ)
kept [] = []
kept (l ∷ ls) = onto (blank_line l) l (kept ls)

-- a newline
abbrev pub is_newline_lem : ℕ → Bool
is_newline_lem b = eqb b 10

-- the text is cut at its newlines; it may lack the last, and with it there is an empty line behind it, which is left off
unfoldable pub lines : List ℕ → List (List ℕ)
lines t = kept (cut_up is_newline_lem (unmarked t))
