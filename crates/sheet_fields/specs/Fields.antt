-- What stands in each column of a line, and what is wrong with it. Assumes nothing.
use Rattle.std.specs.Prelude.{◌*◌, ◌+◌, ℕ, eqb, leb, Bool, cond, false, true, List, [], ◌∷◌}
use Rattle.laws.specs.Lists.{all, each, keep}
use Rattle.sheet_fields.specs.declared.Kind.TheVariants.{Blank, Digit, Other, Parting, Quote, Sign}
use Rattle.sheet_fields.specs.declared.Kind.{Kind}

-- ---- a list cut into pieces
module _ {A : Type 0} where
  -- one item more in front of a list that is cut: one that parts ends the piece before it
  abbrev pub cut_at : Bool → A → List A × List (List A) → List A × List (List A)
  cut_at true x s = ([], s.0 ∷ s.1)
  cut_at false x s = (x ∷ s.0, s.1)

  -- a list, cut at the items that part: the first piece, and those behind it
  unfoldable pub cut : (A → Bool) → List A → List A × List (List A)
  cut parts [] = ([], [])
  cut parts (x ∷ xs) = cut_at (parts x) x (cut parts xs)

  -- all its pieces: one more than there are items that part
  abbrev pub cut_up : (A → Bool) → List A → List (List A)
  cut_up parts xs = (cut parts xs).0 ∷ (cut parts xs).1

-- ---- a line's fields
-- a comma, a semicolon or a tab
abbrev pub is_parting : Kind → Bool
is_parting (Digit d) = false
is_parting Blank = false
is_parting Parting = true
is_parting Sign = false
is_parting Other = false
is_parting Quote = false

-- a blank
abbrev pub is_blank_lem : Kind → Bool
is_blank_lem (Digit d) = false
is_blank_lem Blank = true
is_blank_lem Parting = false
is_blank_lem Sign = false
is_blank_lem Other = false
is_blank_lem Quote = false

-- a digit
abbrev pub is_digit_lem : Kind → Bool
is_digit_lem (Digit d) = true
is_digit_lem Blank = false
is_digit_lem Parting = false
is_digit_lem Sign = false
is_digit_lem Other = false
is_digit_lem Quote = false

-- there is something in it
abbrev pub something : List Kind → Bool
something [] = false
something (k ∷ p) = true

-- what stands between blanks
abbrev pub words : List Kind → List (List Kind)
words p = keep something (cut_up is_blank_lem p)

-- no words are one empty field
abbrev pub or_empty : List (List Kind) → List (List Kind)
or_empty [] = [] ∷ []
or_empty (w ∷ ws) = w ∷ ws

-- the fields of a line: it is cut at its commas, semicolons and tabs, and what stands between two of these is cut at its blanks, or is an empty field
-- if it has nothing but blanks
unfoldable pub fields : List Kind → List (List Kind)
fields l = each (λ (p : List Kind). or_empty (words p)) (cut_up is_parting l)

-- ---- what a field says
-- a digit behind the number v
abbrev pub behind : ℕ → Kind → ℕ
behind v (Digit d) = 10 * v + d
behind v Blank = v
behind v Parting = v
behind v Sign = v
behind v Other = v
behind v Quote = v

-- the number v with these digits behind it
unfoldable pub grown_by : ℕ → List Kind → ℕ
grown_by v [] = v
grown_by v (k ∷ f) = grown_by (behind v k) f

-- the number that a field of digits says: zeros in front change nothing
unfoldable pub value : List Kind → ℕ
value f = grown_by 0 f

-- what is wrong with a field as a number: it is empty (7), is not digits alone (1), or says more than 65,535 (2)
unfoldable pub as_number : List Kind → ℕ
as_number [] = 7
as_number (k ∷ f) = cond (all is_digit_lem (k ∷ f)) (cond (leb (value (k ∷ f)) 65_535) 0 2) 1

-- as a name: only that it is empty
unfoldable pub as_name : List Kind → ℕ
as_name [] = 7
as_name (k ∷ f) = 0

-- a field of a row: the label's, in column `label`, may be anything that a name may be; the column of this one is j + 1
unfoldable pub as_row : ℕ → ℕ → List Kind → ℕ
as_row label j f = cond (eqb label (j + 1)) (as_name f) (as_number f)

-- a field of a line of names, in any column
abbrev pub as_names : ℕ → List Kind → ℕ
as_names j f = as_name f

-- the numbers that the fields of a row say, the first of them in column j + 1: a label counts as 0
unfoldable pub worths : ℕ → ℕ → List (List Kind) → List ℕ
worths label j [] = []
worths label j (f ∷ fs) = cond (eqb label (j + 1)) 0 (value f) ∷ worths label (j + 1) fs

-- a quote
abbrev pub is_quote : Kind → Bool
is_quote (Digit d) = false
is_quote Blank = false
is_quote Parting = false
is_quote Sign = false
is_quote Other = false
is_quote Quote = true

-- a field with this byte in front begins with a digit, a sign or a point: behind a quote, if the rest does
abbrev pub leads : Kind → Bool → Bool
leads (Digit d) behind = true
leads Blank behind = false
leads Parting behind = false
leads Sign behind = true
leads Other behind = false
leads Quote behind = behind

-- the field begins with a digit, a sign or a point, behind quotes if it has such
abbrev pub figured : List Kind → Bool
figured [] = false
figured (k ∷ f) = leads k (figured f)
