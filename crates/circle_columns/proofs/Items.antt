-- The items of a list of circles, judged one after the other. Assumes nothing.
use Prim.Native.Nat.{◌+◌, ◌-◌, ◌<◌, ◌≤◌, suc, ℕ}
use Rattle.asking.proofs.Saying.{part-piece}
use Rattle.asking.specs.Pieces.{Stands, begin_of, has_piece, part_of}
use Rattle.asking.specs.declared.pieces.Piece.{Piece}
use Rattle.circle_columns.specs.Faults.{code_of, name_code}
use Rattle.circle_columns.specs.declared.CircleFault.TheVariants.{Name, NotCounted, TooMany}
use Rattle.circle_columns.specs.declared.CircleFault.{CircleFault}
use Rattle.column_names.specs.declared.NameFault.TheVariants.{NoColumn, TwoColumns}
use Rattle.column_names.specs.declared.NameFault.{NameFault}
use Rattle.std.specs.Prelude.{Err}
use Rattle.circle_columns.specs.Circles.{Bits, Circled, column_trouble_lem, counts, item_says, item_trouble_lem, most_items, says, wrong_item_lem}
use Rattle.column_products.proofs.Firsts.{first-here, first-none, first_on}
use Rattle.column_products.specs.Chosen.{first_to}
use Rattle.column_names.specs.Names.{column_said_lem, told}
use borrow.Author.Tests.{eq-eqb, le-ltb, lt-ltb, ne_eqb}
use lib.Dec.{eqb}
use mathlib.Core.Bool.{Bool, false, not, true}
use mathlib.Core.List.{List}
use mathlib.Core.Path.{◌∙◌, ◌≡◌, ap, refl, subst, sym}
use native.Mathlib.Decide.{ℕ_discrete}
use native.Mathlib.Omega.{arith}

-- a number from 1 on is one more than another
pub one_more : (column j : ℕ) → 1 ≤ column → eqb (column - 1) j ≡ eqb column (suc j)
one_more column j h = go (ℕ_discrete (column - 1) j)
  where
    go : Dec (column - 1 ≡ j) → eqb (column - 1) j ≡ eqb column (suc j)
    go (yes e) = eq-eqb (column - 1) j e ∙ sym (eq-eqb column (suc j) (omega arith))
    go (no e) = ne_eqb (column - 1) j e ∙ sym (ne_eqb column (suc j) (λ q. e (omega (arith, q))))

-- ---- one item
module _ (names : List ℕ) (c : ℕ) (list : List ℕ) (i : ℕ) where
  -- the column that was said of its bytes is the item's
  pub item-said : {p : Piece} → Stands 44 list i p → (b : List ℕ) (column : ℕ) → b ≡ part_of list p.start p.end → column ≡ column_said_lem names b c
      → column ≡ item_says names c list i
  unfolding item_says
  item-said f b column q h = h ∙ ap (λ (x : List ℕ). column_said_lem names x c) (q ∙ part-piece f)

  -- it is not there, and says nothing
  pub says_none : (j : ℕ) → has_piece 44 list i ≡ false → false ≡ says names c list j i
  unfolding says
  says_none j e = rw e refl

  -- it is there: it says column j, or another
  pub says-told : (j : ℕ) → has_piece 44 list i ≡ true → (column : ℕ) → column ≡ item_says names c list i → eqb column (suc j) ≡ says names c list j i
  unfolding says
  says-told j e column h = rw (e, h) refl

  module _ (chosen : List ℕ) (k : ℕ) where
    -- nothing is wrong with an item that is not there
    pub trouble-none : has_piece 44 list i ≡ false → 0 ≡ item_trouble_lem names c list chosen k i
    unfolding item_trouble_lem
    trouble-none e = rw e refl

    -- one too many
    pub trouble-many : has_piece 44 list i ≡ true → most_items ≤ i → 14 ≡ item_trouble_lem names c list chosen k i
    unfolding item_trouble_lem
    trouble-many e h = rw (e, le-ltb i 16 h) refl

    -- else its column decides
    pub trouble-column : has_piece 44 list i ≡ true → i < most_items → (column : ℕ) → column ≡ item_says names c list i → {v : ℕ}
        → v ≡ column_trouble_lem chosen k column → v ≡ item_trouble_lem names c list chosen k i
    unfolding item_trouble_lem
    trouble-column e h column s t = t ∙ rw (e, lt-ltb i 16 h, s) refl

-- ---- one column
module _ (chosen : List ℕ) (k column : ℕ) where
  pub column-none : column ≡ 0 → 11 ≡ column_trouble_lem chosen k column
  unfolding column_trouble_lem
  column-none e = rw e refl

  module _ (some : 1 ≤ column) where
    nonzero : eqb column 0 ≡ false
    nonzero = ne_eqb column 0 (λ q. absurd (omega (arith, q, some)))

    pub column-two : 16 < column → 12 ≡ column_trouble_lem chosen k column
    unfolding column_trouble_lem
    column-two h = rw (nonzero, lt-ltb 16 column h) refl

    pub column-counts : {r : Bool} → column ≤ 16 → r ≡ counts chosen k column → r ≡ true → 0 ≡ column_trouble_lem chosen k column
    unfolding column_trouble_lem
    column-counts h e t = rw (nonzero, le-ltb 16 column h, sym e ∙ t) refl

    pub column-idle : {r : Bool} → column ≤ 16 → r ≡ counts chosen k column → r ≡ false → 16 ≡ column_trouble_lem chosen k column
    unfolding column_trouble_lem
    column-idle h e t = rw (nonzero, le-ltb 16 column h, sym e ∙ t) refl

-- a column that was not found
pub column-named : (chosen : List ℕ) (k : ℕ) (f : NameFault) → name_code f ≡ column_trouble_lem chosen k (told (Err f))
column-named chosen k NoColumn = column-none chosen k 0 refl
column-named chosen k TwoColumns = column-two chosen k 17 (omega arith) (omega arith)

-- ---- the items, one after the other
module _ (names : List ℕ) (c : ℕ) (list chosen : List ℕ) (k : ℕ) where
  -- item i is wrong
  abbrev bad : ℕ → Bool
  bad i = not (eqb (item_trouble_lem names c list chosen k i) 0)

  -- the items before i are right
  abbrev pub Right : ℕ → Type 0
  Right i = first_to bad i ≡ i

  pub right-none : Right 0
  right-none = first-none bad

  pub right-next : {i v : ℕ} → Right i → v ≡ item_trouble_lem names c list chosen k i → v ≡ 0 → Right (i + 1)
  right-next {i} r e z = first_on bad r (rw (sym e ∙ z) refl)

  pub right-not : {i v : ℕ} → Right i → v ≡ item_trouble_lem names c list chosen k i → (v ≡ 0 → ⊥) → i < 17 → i ≡ wrong_item_lem names c list chosen k
  unfolding wrong_item_lem
  right-not {i} r e z h =
      sym (first-here bad 17 r (rw (ne_eqb (item_trouble_lem names c list chosen k i) 0 (λ q. z (e ∙ q))) refl) h)

  pub right_all : {i : ℕ} → Right i → i ≡ 17 → i ≡ wrong_item_lem names c list chosen k
  unfolding wrong_item_lem
  right_all {i} r e = e ∙ sym (subst (λ (x : ℕ). first_to bad x ≡ x) e r)

  -- ---- the call
  -- an item is wrong
  pub circled-wrong : {i v : ℕ} {p : Piece} → Right i → i < 17 → Stands 44 list i p → v ≡ item_trouble_lem names c list chosen k i → (v ≡ 0 → ⊥)
      → Circled names c list chosen k v p.start p.end 0
  circled-wrong {i} r h f t n =
      let e = right-not r t n h in
      record {
        said = t ∙ sym (rw (sym e, lt-ltb i 17 h) refl);
        spot = λ z. (f.starts ∙ ap (begin_of 44 list) e, f.ends, refl);
        bits = λ z. absurd (n z);
        nowhere = λ z. absurd (n z);
      }

  -- none is
  pub circled-right : {i set : ℕ} → Right i → i ≡ 17 → Bits names c list chosen k set → Circled names c list chosen k 0 0 0 set
  circled-right {i} r h b =
      record {
        said = sym (rw (sym (right_all r h), le-ltb i 17 (omega arith)) refl);
        spot = λ z. absurd (z refl);
        bits = λ z. b;
        nowhere = λ z. (refl, refl);
      }

-- a fault is something
pub code_of-some : (f : CircleFault) → code_of f ≡ 0 → ⊥
code_of-some (Name NoColumn) z = omega arith
code_of-some (Name TwoColumns) z = omega arith
code_of-some TooMany z = omega arith
code_of-some NotCounted z = omega arith
