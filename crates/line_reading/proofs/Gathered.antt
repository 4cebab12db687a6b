-- The fields of a line, judged one after the other: what is wrong with the leftmost of them, their numbers and their count. Assumes nothing.
use Prim.Native.Nat.{◌+◌, ◌≤◌, ℕ}
use Rattle.laws.specs.Lists.{all, any}
use Rattle.line_reading.proofs.LineRuns.{add_f, figure_with, gather, held_in}
use Rattle.sheet_fields.specs.Fields.{as_name, as_names, as_number, as_row, figured, is_digit_lem, value, worths}
use Rattle.line_reading.specs.InLine.{added, added_as, emptied, marked, only_empty}
use Rattle.line_reading.specs.Troubles.{none, trouble}
use Rattle.sheet_fields.specs.declared.Kind.{Kind}
use Rattle.line_reading.specs.declared.Line.{Line}
use Rattle.line_reading.specs.declared.Trouble.{Trouble}
use borrow.Author.Tests.{eqb-false, leb-false, lt-leb, ne_eqb}
use lib.Dec.{eqb, leb}
use lib.ListN.{length, length-set, replicate, set, take}
use lib.Seq.{take-suc-set}
use mathlib.Core.Bool.{Bool, ◌||◌, cond, false, true}
use mathlib.Core.List.{List, [], ◌++◌, ◌∷◌, append_assoc, append-nil}
use mathlib.Core.Path.{◌∙◌, ◌≡◌, ap, refl, sym}
use native.Mathlib.Nat.{add-zero}
use native.Mathlib.Numerals.{add-one}
use native.Mathlib.Omega.{arith}

-- ---- what is wrong
-- the trouble t of j fields, and these fields more
unfoldable tally : (ℕ → List Kind → ℕ) → ℕ → Trouble → List (List Kind) → Trouble
tally wrong j t [] = t
tally wrong j t (f ∷ fs) = tally wrong (cond (leb 16 j) 17 (j + 1)) (cond (leb 16 j) (marked t 3 17) (marked t (wrong j f) (j + 1))) fs

-- what was wrong first is kept
marked-kept : (t : Trouble) (kind column : ℕ) → (t.kind ≡ 0 → ⊥) → marked t kind column ≡ t
unfolding marked
marked-kept t kind column z = rw (ne_eqb t.kind 0 z)

module _ (wrong : ℕ → List Kind → ℕ) where
  -- to the end
  tally_kept : (fs : List (List Kind)) (j : ℕ) (t : Trouble) → (t.kind ≡ 0 → ⊥) → tally wrong j t fs ≡ t
  unfolding tally
  tally_kept [] j t z = refl
  tally_kept (f ∷ fs) j t z =
      ap (λ (x : Trouble). tally wrong (cond (leb 16 j) 17 (j + 1)) x fs) (go (leb 16 j))
      ∙ tally_kept fs (cond (leb 16 j) 17 (j + 1)) t z
    where
      go : (b : Bool) → cond b (marked t 3 17) (marked t (wrong j f) (j + 1)) ≡ t
      go true = marked-kept t 3 17 z
      go false = marked-kept t (wrong j f) (j + 1) z

  -- so it is the leftmost
  tally-trouble : (fs : List (List Kind)) (j : ℕ) → tally wrong j none fs ≡ trouble wrong j fs
  unfolding tally trouble marked
  tally-trouble [] j = refl
  tally-trouble (f ∷ fs) j = go (leb 16 j) (eqb (wrong j f) 0) refl (tally-trouble fs (j + 1))
    where
      go : (a b : Bool) → eqb (wrong j f) 0 ≡ b → tally wrong (j + 1) none fs ≡ trouble wrong (j + 1) fs
          → tally wrong (cond a 17 (j + 1))
          (cond {A = Trouble} a (record { kind = 3; column = 17 }) (cond b none (record { kind = wrong j f; column = j + 1 }))) fs
          ≡ cond {A = Trouble} a (record { kind = 3; column = 17 }) (cond b (trouble wrong (j + 1) fs) (record { kind = wrong j f; column = j + 1 }))
      go true b e i = tally_kept fs 17 (record { kind = 3; column = 17 }) (λ (z : ◌≡◌ {A = ℕ} 3 0). omega arith)
      go false true e i = i
      go false false e i = tally_kept fs (j + 1) (record { kind = wrong j f; column = j + 1 }) (eqb-false (wrong j f) 0 e)

  -- nothing is wrong: so there are at most sixteen
  pub trouble-none : (fs : List (List Kind)) (j : ℕ) → j ≤ 16 → (trouble wrong j fs).kind ≡ 0
      → (trouble wrong j fs ≡ none) × (j + length fs ≤ 16)
  unfolding trouble
  trouble-none [] j h e = (refl, omega arith)
  trouble-none (f ∷ fs) j h e = go (leb 16 j) (eqb (wrong j f) 0) refl refl (trouble-none fs (j + 1)) e
    where
      go : (a b : Bool) → leb 16 j ≡ a → eqb (wrong j f) 0 ≡ b
          → (j + 1 ≤ 16 → (trouble wrong (j + 1) fs).kind ≡ 0 → (trouble wrong (j + 1) fs ≡ none) × (j + 1 + length fs ≤ 16))
          → (cond {A = Trouble} a (record { kind = 3; column = 17 })
          (cond b (trouble wrong (j + 1) fs) (record { kind = wrong j f; column = j + 1 }))).kind ≡ 0
          → (cond {A = Trouble} a (record { kind = 3; column = 17 })
          (cond b (trouble wrong (j + 1) fs) (record { kind = wrong j f; column = j + 1 })) ≡ none) × (j + length (f ∷ fs) ≤ 16)
      go true b p q i e = absurd (omega arith)
      go false true p q i e = let x = i (omega (arith, leb-false 16 j p)) e in (x.0, omega (arith, x.1))
      go false false p q i e = absurd (eqb-false (wrong j f) 0 q e)

-- a name may be anything but empty
only_empty_lem : (f : List Kind) → only_empty (as_number f) ≡ as_name f
unfolding only_empty as_number as_name
only_empty_lem [] = refl
only_empty_lem (k ∷ f) = go (all is_digit_lem (k ∷ f)) (leb (value (k ∷ f)) 65_535)
  where
    go : (a b : Bool) → ◌≡◌ {A = ℕ} (cond (eqb (cond a (cond b 0 2) 1) 7) 7 0) 0
    go true true = refl
    go true false = refl
    go false b = refl

-- as a row's: a label is judged as a name
row-judged : (label j : ℕ) (f : List Kind) → cond (eqb label (j + 1)) (only_empty (as_number f)) (as_number f) ≡ as_row label j f
unfolding as_row
row-judged label j f = rw (only_empty_lem f) refl

-- as numbers
numbers_tally : (fs : List (List Kind)) (l : Line) → (gather l fs).numbers ≡ tally (as_row l.label) l.count l.numbers fs
unfolding gather add_f added added_as tally
numbers_tally [] l = refl
numbers_tally (f ∷ fs) l =
    numbers_tally fs (add_f l f)
    ∙ ap (λ (x : ℕ). tally (as_row l.label) (cond (leb 16 l.count) 17 (l.count + 1))
    (cond (leb 16 l.count) (marked l.numbers 3 17) (marked l.numbers x (l.count + 1))) fs) (row-judged l.label l.count f)

-- as names
names_tally : (fs : List (List Kind)) (l : Line) → (gather l fs).names ≡ tally as_names l.count l.names fs
unfolding gather add_f added added_as tally
names_tally [] l = refl
names_tally (f ∷ fs) l =
    names_tally fs (add_f l f)
    ∙ ap (λ (x : ℕ). tally as_names (cond (leb 16 l.count) 17 (l.count + 1))
    (cond (leb 16 l.count) (marked l.names 3 17) (marked l.names x (l.count + 1))) fs) (only_empty_lem f)

-- WHAT IS WRONG WITH THE FIELDS OF A LINE, AS NUMBERS AND AS NAMES
pub line_numbers : (label : ℕ) (fs : List (List Kind)) → (gather (emptied label) fs).numbers ≡ trouble (as_row label) 0 fs
unfolding emptied
line_numbers label fs = numbers_tally fs (emptied label) ∙ tally-trouble (as_row label) fs 0

-- as names
pub line_names : (label : ℕ) (fs : List (List Kind)) → (gather (emptied label) fs).names ≡ trouble as_names 0 fs
unfolding emptied
line_names label fs = names_tally fs (emptied label) ∙ tally-trouble as_names fs 0

-- ---- whether one begins as a figure
-- one field more
figure_more : (b : Bool) (f : List Kind) (x : Bool) → (figure_with b f || x) ≡ (b || (figured f || x))
figure_more b [] x = refl
figure_more true (k ∷ f) x = refl
figure_more false (k ∷ f) x = refl

-- all fields
figures : (fs : List (List Kind)) (l : Line) → (gather l fs).figure ≡ (l.figure || any figured fs)
unfolding gather add_f added added_as
figures [] l = go l.figure
  where
    go : (b : Bool) → b ≡ (b || false)
    go true = refl
    go false = refl
figures (f ∷ fs) l = figures fs (add_f l f) ∙ figure_more l.figure f (any figured fs)

-- of a line
pub line_figure : (label : ℕ) (fs : List (List Kind)) → (gather (emptied label) fs).figure ≡ any figured fs
unfolding emptied
line_figure label fs = figures fs (emptied label)

-- ---- their numbers
-- the numbers, put into the row from k on
abbrev pub filled : List ℕ → ℕ → List ℕ → List ℕ
filled row k [] = row
filled row k (n ∷ ns) = filled (set row k n) (k + 1) ns

-- the numbers that are held, the first of them in column j + 1: a label's is 0
abbrev held_from : ℕ → ℕ → List (List Kind) → List ℕ
held_from label j [] = []
held_from label j (f ∷ fs) = cond (eqb label (j + 1)) 0 (held_in f) ∷ held_from label (j + 1) fs

-- at most sixteen fields are counted, and their numbers stand in the row
gathered : (fs : List (List Kind)) (l : Line) → l.count + length fs ≤ 16
    → ((gather l fs).count ≡ l.count + length fs) × ((gather l fs).row ≡ filled l.row l.count (held_from l.label l.count fs))
unfolding gather add_f added added_as
gathered [] l h = (sym (add-zero l.count), refl)
gathered (f ∷ fs) l h =
    let b : leb 16 l.count ≡ false = lt-leb 16 l.count (omega arith) in
    let v : ℕ = cond (eqb l.label (l.count + 1)) 0 (held_in f) in
    let n : (add_f l f).count ≡ l.count + 1 = rw b in
    let w : (add_f l f).row ≡ set l.row l.count v = rw b in
    let i = gathered fs (add_f l f) (omega (arith, n)) in (
      i.0 ∙ omega (arith, n),
      i.1 ∙ ap (λ (k : ℕ). filled (add_f l f).row k (held_from l.label k fs)) n
          ∙ ap (λ (x : List ℕ). filled x (l.count + 1) (held_from l.label (l.count + 1) fs)) w,
    )

-- what is put into the row from k on stands behind its first k
filled_taken : (ns row : List ℕ) (k : ℕ) → k + length ns ≤ length row → take (k + length ns) (filled row k ns) ≡ take k row ++ ns
filled_taken [] row k h = rw (add-zero, append-nil)
filled_taken (n ∷ ns) row k h =
    let e : k + length (n ∷ ns) ≡ k + 1 + length ns = omega arith in
    ap (λ (j : ℕ). take j (filled (set row k n) (k + 1) ns)) e
    ∙ filled_taken ns (set row k n) (k + 1) (simp length-set (omega arith))
    ∙ rw (add-one, take-suc-set row k n (omega arith), append_assoc)

-- nothing is wrong: so each number is its field's
held_values : (label : ℕ) (fs : List (List Kind)) (j : ℕ) → (trouble (as_row label) j fs).kind ≡ 0 → held_from label j fs ≡ worths label j fs
unfolding trouble held_in as_row worths
held_values label [] j e = refl
held_values label (f ∷ fs) j e = go (leb 16 j) (eqb label (j + 1)) (eqb (as_name f) 0) (eqb (as_number f) 0) refl refl (held_values label fs (j + 1)) e
  where
    go : (a d p b : Bool) → eqb (as_name f) 0 ≡ p → eqb (as_number f) 0 ≡ b
        → ((trouble (as_row label) (j + 1) fs).kind ≡ 0 → held_from label (j + 1) fs ≡ worths label (j + 1) fs)
        → (cond {A = Trouble} a (record { kind = 3; column = 17 })
        (cond (eqb (cond d (as_name f) (as_number f)) 0) (trouble (as_row label) (j + 1) fs) (record { kind = cond d (as_name f) (as_number f); column = j + 1 }))).kind ≡ 0
        → cond d 0 (cond b (value f) 0) ∷ held_from label (j + 1) fs ≡ cond d 0 (value f) ∷ worths label (j + 1) fs
    go true d p b r q i e = absurd (omega arith)
    go false true true b r q i e = ap (λ (x : List ℕ). 0 ∷ x) (i (rw r at e))
    go false true false b r q i e = absurd (eqb-false (as_name f) 0 r (rw r at e))
    go false false p true r q i e = ap (λ (x : List ℕ). value f ∷ x) (i (rw q at e))
    go false false p false r q i e = absurd (eqb-false (as_number f) 0 q (rw q at e))

-- there is a number for each field
held_length : (label : ℕ) (fs : List (List Kind)) (j : ℕ) → length (held_from label j fs) ≡ length fs
held_length label [] j = refl
held_length label (f ∷ fs) j = rw (held_length label fs (j + 1))

-- also of those that are said
pub worths-length : (label : ℕ) (fs : List (List Kind)) (j : ℕ) → length (worths label j fs) ≡ length fs
unfolding worths
worths-length label [] j = refl
worths-length label (f ∷ fs) j = rw (worths-length label fs (j + 1))

-- A LINE IN WHICH NOTHING IS WRONG HAS ITS NUMBERS IN THE ROW
pub line_row : (label : ℕ) (fs : List (List Kind)) → (trouble (as_row label) 0 fs).kind ≡ 0
    → ((gather (emptied label) fs).count ≡ length fs) × (length fs ≤ 16) × (take (length fs) (gather (emptied label) fs).row ≡ worths label 0 fs)
unfolding emptied
line_row label fs e =
    let h = (trouble-none (as_row label) fs 0 (omega arith) e).1 in
    let g = gathered fs (emptied label) (omega (arith, h)) in
    let n : length (held_from label 0 fs) ≡ length fs = held_length label fs 0 in
    let z : 0 + length (held_from label 0 fs) ≡ length fs = omega (arith, n) in
    let t = filled_taken (held_from label 0 fs) (replicate 16 0) 0 (omega (arith, n, h)) in (
      g.0 ∙ omega arith,
      omega (arith, h),
      ap (take (length fs)) g.1 ∙ ap (λ (k : ℕ). take k (filled (replicate 16 0) 0 (held_from label 0 fs))) (sym z) ∙ t ∙ held_values label fs 0 e,
    )

-- names in which nothing is wrong are counted
pub line_titles : (label : ℕ) (fs : List (List Kind)) → (trouble as_names 0 fs).kind ≡ 0
    → ((gather (emptied label) fs).count ≡ length fs) × (length fs ≤ 16) × (trouble as_names 0 fs ≡ none)
unfolding emptied
line_titles label fs e =
    let h = trouble-none as_names fs 0 (omega arith) e in
    let g = gathered fs (emptied label) (omega (arith, h.1)) in
    (g.0 ∙ omega arith, omega (arith, h.1), h.0)
