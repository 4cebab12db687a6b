-- Rows that have a label, counted. Assumes nothing.
use Prim.Native.Nat.{◌+◌, ◌-◌, ◌≤◌, ℕ}
use Rattle.asking.proofs.Saying.{same-pointwise}
use Rattle.asking.specs.Pieces.{part_of}
use Rattle.laws.specs.Lists.{same}
use Rattle.labels.specs.Labels.{hits_to, labelled, last_to}
use Rattle.line_fields.specs.Fields.{field_in, span_of}
use Rattle.text_lines.specs.Lines.{line_from_lem}
use lib.Dec.{eqb}
use lib.ListN.{get_or, take}
use lib.Pointwise.{pointwise}
use mathlib.Core.Bool.{Bool, cond, false, true}
use mathlib.Core.List.{List, []}
use mathlib.Core.Path.{◌∙◌, ◌≡◌, ap, refl, sym}
use native.Mathlib.Numerals.{add-one}
use native.Mathlib.Omega.{arith}

-- a line's field is compared
pub labelled-told : (t starts : List ℕ) (column : ℕ) (label : List ℕ) (i : ℕ) (line field : List ℕ) (r : Bool) → line ≡ line_from_lem t (get_or starts i 0)
    → field ≡ field_in line column → r ≡ pointwise eqb field label → r ≡ labelled t starts column label i
unfolding labelled
labelled-told t starts column label i line field r l f h =
    h ∙ same-pointwise field label ∙ ap (λ (x : List ℕ). same x label) (f ∙ ap (λ (x : List ℕ). field_in x column) l)

-- none of a list
empty_take : (n : ℕ) (xs : List ℕ) → n ≡ 0 → take n xs ≡ []
empty_take n xs e = rw e refl

-- no field is read as nothing
pub field-none : (l : List ℕ) (column : ℕ) → (span_of l (column - 1)).1 ≤ (span_of l (column - 1)).0 → part_of l 0 0 ≡ field_in l column
unfolding field_in part_of
field-none l column h = empty_take _ _ (omega arith) ∙ sym (empty_take _ _ (omega arith))

-- the first i rows were looked at
pub record Counted (f : ℕ → Bool) (count row# i : ℕ) : Type 0 where
  pub hits : count ≡ hits_to f i
  pub last : row# ≡ last_to f i
  pub few : count ≤ i

module _ (f : ℕ → Bool) where
  -- none
  pub counted-none : Counted f 0 0 0
  unfolding hits_to last_to
  counted-none = record { hits = refl; last = refl; few = omega arith }

  -- one row more, by its test
  hits_more : (i : ℕ) → hits_to f (i + 1) ≡ hits_to f i + cond (f i) 1 0
  unfolding hits_to
  hits_more i = rw add-one refl

  last_more : (i : ℕ) → last_to f (i + 1) ≡ cond (f i) i (last_to f i)
  unfolding last_to
  last_more i = rw add-one refl

  module _ {count row# i : ℕ} (c : Counted f count row# i) where
    -- which is none or is one
    pub counted-other : f i ≡ false → Counted f count row# (i + 1)
    counted-other n =
        record {
          hits = omega (arith, c.hits, hits_more i ∙ ap (λ (b : Bool). hits_to f i + cond b 1 0) n);
          last = c.last ∙ sym (last_more i ∙ ap (λ (b : Bool). cond b i (last_to f i)) n);
          few = omega (arith, c.few);
        }

    pub counted-hit : f i ≡ true → Counted f (count + 1) i (i + 1)
    counted-hit y =
        record {
          hits = omega (arith, c.hits, hits_more i ∙ ap (λ (b : Bool). hits_to f i + cond b 1 0) y);
          last = sym (last_more i ∙ ap (λ (b : Bool). cond b i (last_to f i)) y);
          few = omega (arith, c.few);
        }

    -- all rows
    pub counted_all : (k : ℕ) → i ≡ k → (count ≡ hits_to f k) × (row# ≡ last_to f k)
    counted_all k e = (c.hits ∙ ap (hits_to f) e, c.last ∙ ap (last_to f) e)
