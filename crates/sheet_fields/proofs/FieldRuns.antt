-- A line's fields, gathered from left to right: what the reader of a line does at each byte. Assumes nothing.
use Rattle.laws.specs.Lists.{all, each, keep}
use Rattle.sheet_fields.specs.Fields.{cut, fields, is_blank_lem, is_parting, or_empty, something, words}
use Rattle.sheet_fields.specs.declared.Kind.TheVariants.{Blank, Digit, Other, Parting, Quote, Sign}
use Rattle.sheet_fields.specs.declared.Kind.{Kind}
use Rattle.laws.proofs.Never.{never}
use mathlib.Core.Bool.{true}
use mathlib.Core.List.{List, [], ◌++◌, ◌∷◌, append_assoc, append-nil}
use mathlib.Core.Path.{◌∙◌, ◌≡◌, ap, refl, sym}

-- where it stands: in an empty field, in a field with the bytes c ∷ u so far, or behind a field
pub data Spot : Type 0 where
  at_open : Spot
  at_word : Kind → List Kind → Spot
  at-behind : Spot

-- the field that ends here
abbrev pub ending : Spot → List (List Kind)
ending at_open = [] ∷ []
ending (at_word c u) = (c ∷ u) ∷ []
ending at-behind = []

-- a byte of a field
abbrev pub word_spot : Spot → Kind → Spot
word_spot at_open k = at_word k []
word_spot (at_word c u) k = at_word c (u ++ k ∷ [])
word_spot at-behind k = at_word k []

-- a blank
abbrev pub blank_spot : Spot → Spot
blank_spot at_open = at_open
blank_spot (at_word c u) = at-behind
blank_spot at-behind = at-behind

-- any byte
abbrev pub move : Spot → Kind → Spot
move s (Digit d) = word_spot s (Digit d)
move s Blank = blank_spot s
move s Parting = at_open
move s Sign = word_spot s Sign
move s Other = word_spot s Other
move s Quote = word_spot s Quote

-- the field that a blank ends
abbrev pub blank_ends : Spot → List (List Kind)
blank_ends at_open = []
blank_ends (at_word c u) = (c ∷ u) ∷ []
blank_ends at-behind = []

-- the field that a byte ends
abbrev pub emit : Spot → Kind → List (List Kind)
emit s (Digit d) = []
emit s Blank = blank_ends s
emit s Parting = ending s
emit s Sign = []
emit s Other = []
emit s Quote = []

-- the fields that end in the bytes t, or at their end
unfoldable pub rest : Spot → List Kind → List (List Kind)
rest s [] = ending s
rest s (k ∷ t) = emit s k ++ rest (move s k) t

-- ---- these are the fields of the definition
-- all fields of these pieces
abbrev fields_in : List (List Kind) → List (List Kind)
fields_in ps = each (λ (p : List Kind). or_empty (words p)) ps

-- what is left of a line, from each spot on
abbrev left : Spot → List Kind × List (List Kind) → List (List Kind)
left at_open s = or_empty (words s.0) ++ fields_in s.1
left (at_word c u) s = (c ∷ (u ++ (cut is_blank_lem s.0).0)) ∷ (keep something (cut is_blank_lem s.0).1 ++ fields_in s.1)
left at-behind s = words s.0 ++ fields_in s.1

-- a field goes on by one byte
longer : (c k : Kind) (u q : List Kind) (x : List (List Kind)) → (c ∷ ((u ++ k ∷ []) ++ q)) ∷ x ≡ (c ∷ (u ++ k ∷ q)) ∷ x
longer c k u q x = ap (λ (y : List Kind). (c ∷ y) ∷ x) (append_assoc u (k ∷ []) q)

-- a field ends, and the rest is as it should be
whole_word : (c : Kind) (u : List Kind) {x y : List (List Kind)} → x ≡ y → (c ∷ u) ∷ x ≡ (c ∷ (u ++ [])) ∷ y
whole_word c u {y = y} e = ap (λ z. (c ∷ u) ∷ z) e ∙ ap (λ (z : List Kind). (c ∷ z) ∷ y) (sym (append-nil u))

-- from each spot on
rest_left : (t : List Kind) (s : Spot) → rest s t ≡ left s (cut is_parting t)
unfolding rest cut
rest_left [] at_open = refl
rest_left [] (at_word c u) = whole_word c u refl
rest_left [] at-behind = refl
rest_left (Digit d ∷ t) at_open = rest_left t (at_word (Digit d) [])
rest_left (Digit d ∷ t) (at_word c u) = rest_left t (at_word c (u ++ Digit d ∷ [])) ∙ longer c (Digit d) u _ _
rest_left (Digit d ∷ t) at-behind = rest_left t (at_word (Digit d) [])
rest_left (Blank ∷ t) at_open = rest_left t at_open
rest_left (Blank ∷ t) (at_word c u) = whole_word c u (rest_left t at-behind)
rest_left (Blank ∷ t) at-behind = rest_left t at-behind
rest_left (Parting ∷ t) at_open = ap (λ x. [] ∷ x) (rest_left t at_open)
rest_left (Parting ∷ t) (at_word c u) = whole_word c u (rest_left t at_open)
rest_left (Parting ∷ t) at-behind = rest_left t at_open
rest_left (Sign ∷ t) at_open = rest_left t (at_word Sign [])
rest_left (Sign ∷ t) (at_word c u) = rest_left t (at_word c (u ++ Sign ∷ [])) ∙ longer c Sign u _ _
rest_left (Sign ∷ t) at-behind = rest_left t (at_word Sign [])
rest_left (Other ∷ t) at_open = rest_left t (at_word Other [])
rest_left (Other ∷ t) (at_word c u) = rest_left t (at_word c (u ++ Other ∷ [])) ∙ longer c Other u _ _
rest_left (Other ∷ t) at-behind = rest_left t (at_word Other [])
rest_left (Quote ∷ t) at_open = rest_left t (at_word Quote [])
rest_left (Quote ∷ t) (at_word c u) = rest_left t (at_word c (u ++ Quote ∷ [])) ∙ longer c Quote u _ _
rest_left (Quote ∷ t) at-behind = rest_left t (at_word Quote [])

-- A LINE'S FIELDS ARE THOSE THAT END IN IT, FROM LEFT TO RIGHT
pub fields_rest : (t : List Kind) → fields t ≡ rest at_open t
unfolding fields
fields_rest t = sym (rest_left t at_open)

-- blanks alone are one empty field
pub blank_rest : (t : List Kind) → all is_blank_lem t ≡ true → rest at_open t ≡ [] ∷ []
unfolding rest
blank_rest [] e = refl
blank_rest (Digit d ∷ t) e = never e
blank_rest (Blank ∷ t) e = blank_rest t e
blank_rest (Parting ∷ t) e = never e
blank_rest (Sign ∷ t) e = never e
blank_rest (Other ∷ t) e = never e
blank_rest (Quote ∷ t) e = never e
