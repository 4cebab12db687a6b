-- One line read whole: its fields are judged one after the other. Assumes nothing.
use Prim.Native.Nat.{◌*◌, ◌+◌, ℕ}
use Rattle.laws.proofs.Never.{never}
use Rattle.laws.specs.Lists.{all}
use Rattle.sheet_fields.proofs.FieldRuns.{Spot, at-behind, at_open, at_word, emit, ending, fields_rest, move, rest}
use Rattle.line_reading.specs.InLine.{added, added_as, along, bare, begins, blank_at, digit_at, emptied, grown, moved, opened, opens, quote_at, settled, settled_at}
use Rattle.sheet_fields.specs.Fields.{as_number, behind, fields, figured, grown_by, is_blank_lem, is_digit_lem, is_quote, leads, value}
use Rattle.sheet_fields.specs.declared.Kind.TheVariants.{Blank, Digit, Other, Parting, Quote, Sign}
use Rattle.sheet_fields.specs.declared.Kind.{Kind}
use Rattle.line_reading.specs.declared.Line.{Line}
use Rattle.line_reading.specs.declared.Place.TheVariants.{Behind, Great, Inside, Open, Quoted, Strange}
use Rattle.line_reading.specs.declared.Place.{Place}
use borrow.Author.Tests.{leb-false, lt-leb, ne_eqb}
use lib.Dec.{eqb, leb}
use mathlib.Core.Bool.{Bool, ◌&&◌, ◌||◌, cond, false, true}
use mathlib.Core.List.{List, [], ◌++◌, ◌∷◌}
use mathlib.Core.Path.{◌∙◌, ◌≡◌, ap, refl, sym}
use native.Mathlib.Omega.{arith}

-- the line after all these bytes
unfoldable pub through : Line → List Kind → Line
through l [] = l
through l (k ∷ t) = through (along l k) t

-- ---- a field so far
-- the place in a field with these bytes
unfoldable pub word_place : List Kind → Place
word_place f = cond (all is_quote f) Quoted (cond (all is_digit_lem f) (cond (leb (value f) 65_535) (Inside (value f)) Great) Strange)

-- the number of a field that is one
unfoldable pub held_in : List Kind → ℕ
held_in f = cond (eqb (as_number f) 0) (value f) 0

-- one byte more is a digit more
grown_more : (v : ℕ) (f : List Kind) (d : ℕ) → grown_by v (f ++ Digit d ∷ []) ≡ 10 * grown_by v f + d
unfolding grown_by
grown_more v [] d = refl
grown_more v (k ∷ f) d = grown_more (behind v k) f d

module _ (test : Kind → Bool) where
  -- a test of all bytes is one of the last besides
  all_more : (f : List Kind) (k : Kind) → all test (f ++ k ∷ []) ≡ (all test f && test k)
  all_more [] k = go (test k)
    where
      go : (b : Bool) → (b && true) ≡ b
      go true = refl
      go false = refl
  all_more (j ∷ f) k = go (test j) (all_more f k)
    where
      go : (b : Bool) → all test (f ++ k ∷ []) ≡ (all test f && test k) → (b && all test (f ++ k ∷ [])) ≡ ((b && all test f) && test k)
      go true e = e
      go false e = refl

-- quotes are no digits
quotes_digits : (c : Kind) (u : List Kind) → all is_quote (c ∷ u) ≡ true → all is_digit_lem (c ∷ u) ≡ false
quotes_digits (Digit d) u e = never e
quotes_digits Blank u e = refl
quotes_digits Parting u e = refl
quotes_digits Sign u e = refl
quotes_digits Other u e = refl
quotes_digits Quote u e = refl

-- a digit behind a field
word_digit : (c : Kind) (u : List Kind) (d : ℕ) → digit_at (word_place (c ∷ u)) d ≡ word_place ((c ∷ u) ++ Digit d ∷ [])
unfolding word_place value grown
word_digit c u d =
    rw (all_more is_digit_lem (c ∷ u) (Digit d), all_more is_quote (c ∷ u) (Digit d), grown_more 0 (c ∷ u) d)
    (go (all is_quote (c ∷ u)) (all is_digit_lem (c ∷ u)) (leb (grown_by 0 (c ∷ u)) 65_535) refl (quotes_digits c u) refl)
  where
    go : (q a b : Bool) → all is_digit_lem (c ∷ u) ≡ a → (q ≡ true → all is_digit_lem (c ∷ u) ≡ false) → leb (grown_by 0 (c ∷ u)) 65_535 ≡ b
        → digit_at (cond q Quoted (cond a (cond b (Inside (grown_by 0 (c ∷ u))) Great) Strange)) d
        ≡ cond (q && false) Quoted
        (cond (a && true) (cond (leb (10 * grown_by 0 (c ∷ u) + d) 65_535) (Inside (10 * grown_by 0 (c ∷ u) + d)) Great) Strange)
    go true true b p n e = never (sym (n refl) ∙ p)
    go true false b p n e = refl
    go false true true p n e = refl
    go false true false p n e = rw (lt-leb (10 * grown_by 0 (c ∷ u) + d) 65_535 (omega (arith, leb-false (grown_by 0 (c ∷ u)) 65_535 e)))
    go false false b p n e = refl

-- a quote behind a field
word_quote : (c : Kind) (u : List Kind) → quote_at (word_place (c ∷ u)) ≡ word_place ((c ∷ u) ++ Quote ∷ [])
unfolding word_place
word_quote c u =
    rw (all_more is_digit_lem (c ∷ u) Quote, all_more is_quote (c ∷ u) Quote) (go (all is_quote (c ∷ u)) (all is_digit_lem (c ∷ u)) (leb (value (c ∷ u)) 65_535))
  where
    go : (q a b : Bool) → quote_at (cond q Quoted (cond a (cond b (Inside (value (c ∷ u))) Great) Strange))
        ≡ cond (q && true) Quoted (cond (a && false) (cond (leb (value ((c ∷ u) ++ Quote ∷ [])) 65_535) (Inside (value ((c ∷ u) ++ Quote ∷ []))) Great) Strange)
    go true a b = refl
    go false true true = refl
    go false true false = refl
    go false false b = refl

-- any other byte of a field makes it no number
word_other : (f : List Kind) (k : Kind) → is_digit_lem k ≡ false → is_quote k ≡ false → Strange ≡ word_place (f ++ k ∷ [])
unfolding word_place
word_other f k e n = rw (all_more is_digit_lem f k, all_more is_quote f k, e, n) (go (all is_quote f) (all is_digit_lem f))
  where
    go : (q a : Bool) → Strange
        ≡ cond (q && false) Quoted (cond (a && false) (cond (leb (value (f ++ k ∷ [])) 65_535) (Inside (value (f ++ k ∷ []))) Great) Strange)
    go true true = refl
    go true false = refl
    go false true = refl
    go false false = refl

-- inside a field none begins
word_shut : (f : List Kind) → opens (word_place f) ≡ false
unfolding word_place
word_shut f = go (all is_quote f) (all is_digit_lem f) (leb (value f) 65_535)
  where
    go : (q a b : Bool) → opens (cond q Quoted (cond a (cond b (Inside (value f)) Great) Strange)) ≡ false
    go true a b = refl
    go false true true = refl
    go false true false = refl
    go false false b = refl

-- and none may be a figure yet, unless it has quotes alone
word_begins : (f : List Kind) → begins (word_place f) ≡ all is_quote f
unfolding word_place
word_begins f = go (all is_quote f) (all is_digit_lem f) (leb (value f) 65_535)
  where
    go : (q a b : Bool) → begins (cond q Quoted (cond a (cond b (Inside (value f)) Great) Strange)) ≡ q
    go true a b = refl
    go false true true = refl
    go false true false = refl
    go false false b = refl

-- ---- a field that ends is judged
-- at the end of a line, or at a byte that parts
settle_word : (c : Kind) (u : List Kind) (l : Line) → settled_at (word_place (c ∷ u)) l ≡ added l (as_number (c ∷ u)) (held_in (c ∷ u))
unfolding word_place held_in as_number
settle_word c u l = go (all is_quote (c ∷ u)) (all is_digit_lem (c ∷ u)) (leb (value (c ∷ u)) 65_535) refl (quotes_digits c u)
  where
    go : (q a b : Bool) → all is_digit_lem (c ∷ u) ≡ a → (q ≡ true → all is_digit_lem (c ∷ u) ≡ false)
        → settled_at (cond q Quoted (cond a (cond b (Inside (value (c ∷ u))) Great) Strange)) l
        ≡ added l (cond a (cond b 0 2) 1) (cond (eqb (cond a (cond b 0 2) 1) 0) (value (c ∷ u)) 0)
    go true true b p n = never (sym (n refl) ∙ p)
    go true false b p n = refl
    go false true true p n = refl
    go false true false p n = refl
    go false false b p n = refl

-- or at a blank
blank_word : (c : Kind) (u : List Kind) (l : Line) → blank_at (word_place (c ∷ u)) l ≡ added l (as_number (c ∷ u)) (held_in (c ∷ u))
unfolding word_place held_in as_number
blank_word c u l = go (all is_quote (c ∷ u)) (all is_digit_lem (c ∷ u)) (leb (value (c ∷ u)) 65_535) refl (quotes_digits c u)
  where
    go : (q a b : Bool) → all is_digit_lem (c ∷ u) ≡ a → (q ≡ true → all is_digit_lem (c ∷ u) ≡ false)
        → blank_at (cond q Quoted (cond a (cond b (Inside (value (c ∷ u))) Great) Strange)) l
        ≡ added l (cond a (cond b 0 2) 1) (cond (eqb (cond a (cond b 0 2) 1) 0) (value (c ∷ u)) 0)
    go true true b p n = never (sym (n refl) ∙ p)
    go true false b p n = refl
    go false true true p n = refl
    go false true false p n = refl
    go false false b p n = refl

-- ---- the line at a spot
-- the line l with another place and figure
abbrev pub placed : Line → Place → Bool → Line
placed l p figure =
    record { place = p; figure = figure; count = l.count; row = l.row; numbers = l.numbers; names = l.names; label = l.label }

-- the line l, with a field so far
abbrev pub at : Spot → Line → Line
at at_open l = placed l Open l.figure
at (at_word c u) l = placed l (word_place (c ∷ u)) (l.figure || figured (c ∷ u))
at at-behind l = placed l Behind l.figure

-- a figure came before, or the field begins as one
abbrev pub figure_with : Bool → List Kind → Bool
figure_with b [] = b
figure_with b (c ∷ u) = b || figured (c ∷ u)

-- one field more
unfoldable pub add_f : Line → List Kind → Line
add_f l f = added (placed l l.place (figure_with l.figure f)) (as_number f) (held_in f)

-- these fields more
unfoldable pub gather : Line → List (List Kind) → Line
gather l [] = l
gather l (f ∷ fs) = gather (add_f l f) fs

-- in two parts
gather_more : (a b : List (List Kind)) (l : Line) → gather l (a ++ b) ≡ gather (gather l a) b
unfolding gather
gather_more [] b l = refl
gather_more (f ∷ a) b l = gather_more a b (add_f l f)

-- ---- one byte more
-- a field with one byte more is a figure if it was one, or if there were quotes alone and the byte makes it one
figured_more : (f : List Kind) (k : Kind) → figured (f ++ k ∷ []) ≡ (figured f || (leads k false && all is_quote f))
figured_more [] k = go (leads k false)
  where
    go : (b : Bool) → b ≡ (b && true)
    go true = refl
    go false = refl
figured_more (Digit d ∷ f) k = refl
figured_more (Blank ∷ f) k = go (leads k false)
  where
    go : (b : Bool) → false ≡ (b && false)
    go true = refl
    go false = refl
figured_more (Parting ∷ f) k = go (leads k false)
  where
    go : (b : Bool) → false ≡ (b && false)
    go true = refl
    go false = refl
figured_more (Sign ∷ f) k = refl
figured_more (Other ∷ f) k = go (leads k false)
  where
    go : (b : Bool) → false ≡ (b && false)
    go true = refl
    go false = refl
figured_more (Quote ∷ f) k = figured_more f k

-- one more in front
or_assoc : (x y z : Bool) → ((x || y) || z) ≡ (x || (y || z))
or_assoc true y z = refl
or_assoc false y z = refl

-- a byte behind a field's first
word_moved : (l : Line) (c : Kind) (u : List Kind) (k : Kind) (p : Place) (b : Bool) → b ≡ leads k false → p ≡ word_place (c ∷ (u ++ k ∷ []))
    → moved (at (at_word c u) l) p b ≡ at (at_word c (u ++ k ∷ [])) l
unfolding moved
word_moved l c u k p b h e =
    rw (e, word_begins (c ∷ u), or_assoc l.figure (figured (c ∷ u)) (b && all is_quote (c ∷ u)), h, sym (figured_more (c ∷ u) k))

-- any byte
step : (s : Spot) (l : Line) (k : Kind) → along (at s l) k ≡ at (move s k) (gather l (emit s k))
unfolding gather add_f added added_as moved opened word_place value grown_by grown as_number held_in
step at_open l (Digit d) = refl
step at_open l Blank = refl
step at_open l Parting = refl
step at_open l Sign = refl
step at_open l Other = refl
step at_open l Quote = refl
step at-behind l (Digit d) = refl
step at-behind l Blank = refl
step at-behind l Parting = refl
step at-behind l Sign = refl
step at-behind l Other = refl
step at-behind l Quote = refl
step (at_word c u) l (Digit d) = word_moved l c u (Digit d) (digit_at (word_place (c ∷ u)) d) true refl (word_digit c u d)
step (at_word c u) l Blank = blank_word c u (at (at_word c u) l)
step (at_word c u) l Parting = ap opened (settle_word c u (at (at_word c u) l))
step (at_word c u) l Sign = word_moved l c u Sign Strange true refl (word_other (c ∷ u) Sign refl refl)
step (at_word c u) l Other = word_moved l c u Other Strange false refl (word_other (c ∷ u) Other refl refl)
step (at_word c u) l Quote = word_moved l c u Quote (quote_at (word_place (c ∷ u))) false refl (word_quote c u)

-- the end
finish : (s : Spot) (l : Line) → settled (at s l) ≡ at at-behind (gather l (ending s))
unfolding gather add_f added added_as as_number held_in
finish at_open l = refl
finish (at_word c u) l = settle_word c u (at (at_word c u) l)
finish at-behind l = refl

-- all bytes
through_rest : (t : List Kind) (s : Spot) (l : Line) → settled (through (at s l) t) ≡ at at-behind (gather l (rest s t))
unfolding through rest
through_rest [] s l = finish s l
through_rest (k ∷ t) s l =
    ap (λ (x : Line). settled (through x t)) (step s l k)
    ∙ through_rest t (move s k) (gather l (emit s k))
    ∙ ap (at at-behind) (sym (gather_more (emit s k) (rest (move s k) t) l))

-- A LINE'S FIELDS ARE JUDGED ONE AFTER THE OTHER
pub line_fields : (label : ℕ) (t : List Kind) → settled (through (emptied label) t) ≡ at at-behind (gather (emptied label) (fields t))
unfolding emptied
line_fields label t = rw (fields_rest t) (through_rest t at_open (emptied label))

-- ---- a blank line
-- a field that has ended is not forgotten
counts : (l : Line) (f : List Kind) → ((add_f l f).count ≡ 0 → ⊥)
unfolding add_f added added_as
counts l f e = go (leb 16 l.count) e
  where
    go : (b : Bool) → cond b 17 (l.count + 1) ≡ 0 → ⊥
    go true e = omega arith
    go false e = omega arith

-- no byte lets it be
emitted_counts : (l : Line) (s : Spot) (k : Kind) → (l.count ≡ 0 → ⊥) → ((gather l (emit s k)).count ≡ 0 → ⊥)
unfolding gather
emitted_counts l s (Digit d) n = n
emitted_counts l at_open Blank n = n
emitted_counts l (at_word c u) Blank n = counts l (c ∷ u)
emitted_counts l at-behind Blank n = n
emitted_counts l at_open Parting n = counts l []
emitted_counts l (at_word c u) Parting n = counts l (c ∷ u)
emitted_counts l at-behind Parting n = n
emitted_counts l s Sign n = n
emitted_counts l s Other n = n
emitted_counts l s Quote n = n

-- the count of a line at a spot is that of the line
at_count : (s : Spot) (l : Line) → (at s l).count ≡ l.count
at_count at_open l = refl
at_count (at_word c u) l = refl
at_count at-behind l = refl

-- a line with a field that has ended is not blank
full_line : (t : List Kind) (s : Spot) (l : Line) → (l.count ≡ 0 → ⊥) → bare (through (at s l) t) ≡ false
unfolding through bare
full_line [] s l n = rw (at_count s l, ne_eqb l.count 0 n)
full_line (k ∷ t) s l n =
    ap (λ (x : Line). bare (through x t)) (step s l k) ∙ full_line t (move s k) (gather l (emit s k)) (emitted_counts l s k n)

-- nor is one in a field
word_line : (t : List Kind) (c : Kind) (u : List Kind) (l : Line) → bare (through (at (at_word c u) l) t) ≡ false
unfolding through bare gather
word_line [] c u l = rw (word_shut (c ∷ u)) (go (eqb l.count 0))
  where
    go : (b : Bool) → (b && false) ≡ false
    go true = refl
    go false = refl
word_line (Digit d ∷ t) c u l = ap (λ (x : Line). bare (through x t)) (step (at_word c u) l (Digit d)) ∙ word_line t c (u ++ Digit d ∷ []) l
word_line (Blank ∷ t) c u l =
    ap (λ (x : Line). bare (through x t)) (step (at_word c u) l Blank) ∙ full_line t at-behind (add_f l (c ∷ u)) (counts l (c ∷ u))
word_line (Parting ∷ t) c u l =
    ap (λ (x : Line). bare (through x t)) (step (at_word c u) l Parting) ∙ full_line t at_open (add_f l (c ∷ u)) (counts l (c ∷ u))
word_line (Sign ∷ t) c u l = ap (λ (x : Line). bare (through x t)) (step (at_word c u) l Sign) ∙ word_line t c (u ++ Sign ∷ []) l
word_line (Other ∷ t) c u l = ap (λ (x : Line). bare (through x t)) (step (at_word c u) l Other) ∙ word_line t c (u ++ Other ∷ []) l
word_line (Quote ∷ t) c u l = ap (λ (x : Line). bare (through x t)) (step (at_word c u) l Quote) ∙ word_line t c (u ++ Quote ∷ []) l

-- from an open field on
open-line : (t : List Kind) (l : Line) → l.count ≡ 0 → bare (through (at at_open l) t) ≡ all is_blank_lem t
unfolding through bare gather
open-line [] l z = rw z
open-line (Digit d ∷ t) l z = ap (λ (x : Line). bare (through x t)) (step at_open l (Digit d)) ∙ word_line t (Digit d) [] l
open-line (Blank ∷ t) l z = open-line t l z
open-line (Parting ∷ t) l z = ap (λ (x : Line). bare (through x t)) (step at_open l Parting) ∙ full_line t at_open (add_f l []) (counts l [])
open-line (Sign ∷ t) l z = ap (λ (x : Line). bare (through x t)) (step at_open l Sign) ∙ word_line t Sign [] l
open-line (Other ∷ t) l z = ap (λ (x : Line). bare (through x t)) (step at_open l Other) ∙ word_line t Other [] l
open-line (Quote ∷ t) l z = ap (λ (x : Line). bare (through x t)) (step at_open l Quote) ∙ word_line t Quote [] l

-- A LINE IS BARE IF IT HAS BLANKS ALONE
pub line_bare : (label : ℕ) (t : List Kind) → bare (through (emptied label) t) ≡ all is_blank_lem t
unfolding emptied
line_bare label t = open-line t (emptied label) refl
