-- Whether a word is this one, and the parts of a text that its pieces are. Assumes nothing.
use Prim.Native.Nat.{◌+◌, ◌<◌, ◌≤◌, min, suc, zero, ℕ}
use Rattle.asking.specs.declared.pieces.Piece.{Piece}
use Rattle.asking.specs.Pieces.{Stands, has_piece, part_of, piece_of}
use Rattle.asking.specs.Words.{has_word_lem, way_of, word_is}
use Rattle.laws.proofs.Never.{never}
use Rattle.laws.specs.Lists.{same}
use borrow.Author.Tests.{eq-eqb, eqb-true}
use lib.Dec.{eqb}
use lib.Pointwise.{pointwise}
use lib.ListN.{length}
use mathlib.Core.Bool.{Bool, ◌&&◌, ◌||◌, false, true}
use mathlib.Core.List.{List, [], ◌∷◌}
use mathlib.Core.Path.{◌∙◌, ◌≡◌, ap, ap₂, refl, sym}
use native.Mathlib.Decide.{ℕ_discrete}
use native.Mathlib.Numerals.{add-one}
use native.Mathlib.Omega.{arith}

-- ---- the same bytes
-- a list is the same as itself
same_self : (xs : List ℕ) → same xs xs ≡ true
same_self [] = refl
same_self (x ∷ xs) = rw (eq-eqb x x refl) (same_self xs)

-- two that are the same are equal
pub same_equal : (xs ys : List ℕ) → same xs ys ≡ true → xs ≡ ys
same_equal [] [] e = refl
same_equal [] (y ∷ ys) e = never e
same_equal (x ∷ xs) [] e = never e
same_equal (x ∷ xs) (y ∷ ys) e = go (eqb x y) refl e (same_equal xs ys)
  where
    go : (b : Bool) → eqb x y ≡ b → (b && same xs ys) ≡ true → (same xs ys ≡ true → xs ≡ ys) → (x ∷ xs) ≡ (y ∷ ys)
    go true p q ih = ap₂ ◌∷◌ (eqb-true x y p) (ih q)
    go false p q ih = never q

-- so a test that tells equal lists tells the same
pub same-told : (r : Bool) (xs ys : List ℕ) → (r ≡ true → xs ≡ ys) × (xs ≡ ys → r ≡ true) → r ≡ same xs ys
same-told r xs ys h = go r (same xs ys) refl refl
  where
    go : (a b : Bool) → r ≡ a → same xs ys ≡ b → r ≡ same xs ys
    go true b p q = p ∙ sym (ap (same xs) (sym (h.0 p)) ∙ same_self xs)
    go false true p q = never (sym p ∙ h.1 (same_equal xs ys q))
    go false false p q = p ∙ sym q

-- as the library's test does
pub same-pointwise : (xs ys : List ℕ) → pointwise eqb xs ys ≡ same xs ys
same-pointwise [] [] = refl
same-pointwise [] (y ∷ ys) = refl
same-pointwise (x ∷ xs) [] = refl
same-pointwise (x ∷ xs) (y ∷ ys) = ap (λ (b : Bool). eqb x y && b) (same-pointwise xs ys)

-- ---- pieces
module _ {b : ℕ} {t : List ℕ} {i : ℕ} {p : Piece} (f : Stands b t i p) where
  -- a piece that is there is a part of the text
  pub part-piece : part_of t p.start p.end ≡ piece_of b t i
  unfolding part_of piece_of
  part-piece =
      let x : min p.end (length t) ≡ p.end = omega (arith, f.inside) in
      let y : min p.start p.end ≡ p.start = omega (arith, f.ordered) in
      rw (x, y, f.ends, f.starts)

-- ---- one of the words
module _ (t w : List ℕ) (i : ℕ) where
  -- there is no such word
  pub word_none : has_piece 0 t i ≡ false → false ≡ word_is t w i
  unfolding word_is
  word_none e = rw e

  -- there is, and it is compared
  pub word_some : {p : Piece} → Stands 0 t i p → (s : List ℕ) (r : Bool) → s ≡ part_of t p.start p.end → r ≡ pointwise eqb s w → r ≡ word_is t w i
  unfolding word_is
  word_some f s r q h = rw f.has (h ∙ same-pointwise s w ∙ ap (λ (x : List ℕ). same x w) (q ∙ part-piece f))

-- ---- one of the words
module _ (t w : List ℕ) (i : ℕ) where
  -- none so far, and one word more that is another
  pub has-next : false ≡ word_is t w i → false ≡ has_word_lem t w i → false ≡ has_word_lem t w (i + 1)
  unfolding has_word_lem
  has-next e f = rw (add-one, ← e, ← f)

  -- or is it
  pub has-found : (k : ℕ) → true ≡ word_is t w i → i < k → true ≡ has_word_lem t w k
  unfolding has_word_lem
  has-found zero e l = absurd (omega arith)
  has-found (suc k) e l = go (ℕ_discrete i k) (has-found k e)
    where
      or-true : (a : Bool) → true ≡ (a || true)
      or-true true = refl
      or-true false = refl

      go : Dec (i ≡ k) → (i < k → true ≡ has_word_lem t w k) → true ≡ (word_is t w k || has_word_lem t w k)
      go (yes q) f = rw (ap (word_is t w) (sym q) ∙ sym e)
      go (no q) f = rw (sym (f (omega (arith, q)))) (or-true (word_is t w k))

-- none of no words
pub has-none : (t w : List ℕ) → false ≡ has_word_lem t w 0
unfolding has_word_lem
has-none t w = refl

-- all
pub has_all : (t w : List ℕ) (i : ℕ) → false ≡ has_word_lem t w i → i ≤ 32 → 32 ≤ i → false ≡ has_word_lem t w 32
has_all t w i e l h = e ∙ ap (has_word_lem t w) (omega arith)

-- ---- the way
module _ (w : List ℕ) where
  -- a word that is, or is not, one of the two
  pub told : (r : Bool) (l m : List ℕ) → l ≡ m → r ≡ pointwise eqb w l → same w m ≡ r
  told r l m e h = sym (h ∙ same-pointwise w l ∙ ap (same w) e)

  module _ {l : List ℕ} (e : l ≡ 108 ∷ 105 ∷ 107 ∷ 101 ∷ []) where
    -- like
    pub way-like : true ≡ pointwise eqb w l → 1 ≡ way_of w
    unfolding way_of
    way-like h = rw (told true l _ e h)

    module _ (o : false ≡ pointwise eqb w l) {n : List ℕ} (f : n ≡ 110 ∷ 101 ∷ 97 ∷ 114 ∷ 101 ∷ 115 ∷ 116 ∷ []) where
      -- nearest
      pub way-nearest : true ≡ pointwise eqb w n → 2 ≡ way_of w
      unfolding way_of
      way-nearest h = rw (told false l _ e o, told true n _ f h)

      -- neither
      pub way-none : false ≡ pointwise eqb w n → 0 ≡ way_of w
      unfolding way_of
      way-none h = rw (told false l _ e o, told false n _ f h)
