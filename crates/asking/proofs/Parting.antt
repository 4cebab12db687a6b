-- Where the pieces of a text begin and end. Assumes nothing.
use Prim.Native.Nat.{◌+◌, ◌-◌, ◌<◌, ◌≤◌, suc, zero, ℕ}
use Rattle.asking.specs.Pieces.{before, begin_of, end_at, has_piece, place_from}
use borrow.Author.Tests.{le-leb, lt-leb}
use lib.ListN.{drop_of_length-le, get_or, length}
use lib.Seq.{drop-cons}
use mathlib.Core.Bool.{Bool, false, true}
use mathlib.Core.List.{List}
use mathlib.Core.Path.{◌∙◌, ◌≡◌, ap, refl, subst, sym}
use native.Mathlib.Numerals.{add-one}
use native.Mathlib.Omega.{arith}

-- from place i on a byte is looked for as from place `at` on
pub record Looking (f : ℕ → Bool) (t : List ℕ) (at i : ℕ) : Type 0 where
  pub same : place_from f t at ≡ place_from f t i
  pub low : at ≤ i
  pub high : i ≤ length t

module _ (f : ℕ → Bool) (t : List ℕ) where
  -- another byte is passed
  further : (i : ℕ) → i < length t → f (get_or t i 0) ≡ false → place_from f t i ≡ place_from f t (i + 1)
  unfolding place_from before
  further i h n = rw (drop-cons t i 0 h, n, add-one) (omega arith)

  -- the byte is there
  here : (i : ℕ) → i < length t → f (get_or t i 0) ≡ true → i ≡ place_from f t i
  unfolding place_from before
  here i h e = rw (drop-cons t i 0 h, e) (omega arith)

  -- nothing is left
  past : (i : ℕ) → length t ≤ i → i ≡ place_from f t i
  unfolding place_from before
  past i h = rw (drop_of_length-le t h) (omega arith)

  -- at the start
  pub looking_start : (at : ℕ) → at ≤ length t → Looking f t at at
  looking_start at h = record { same = refl; low = omega arith; high = h }

  -- at another byte
  pub looking_next : (at i : ℕ) → Looking f t at i → i < length t → f (get_or t i 0) ≡ false → Looking f t at (i + 1)
  looking_next at i l h n = record { same = l.same ∙ further i h n; low = omega (arith, l.low); high = omega arith }

  -- at the byte
  pub looking_found : (at i : ℕ) → Looking f t at i → i < length t → f (get_or t i 0) ≡ true → i ≡ place_from f t at
  looking_found at i l h e = here i h e ∙ sym l.same

  -- at the end
  pub looking_end : (at i : ℕ) → Looking f t at i → length t ≤ i → i ≡ place_from f t at
  looking_end at i l h = past i h ∙ sym l.same

-- where a piece ends
module _ (b : ℕ) (t : List ℕ) where
  -- not before it begins
  pub end_behind : (at : ℕ) → at ≤ end_at b t at
  unfolding place_from
  end_behind at = omega arith

  -- piece 0 begins with the text
  pub begin_first : begin_of b t 0 ≡ 0
  unfolding begin_of
  begin_first = refl

  -- the next one behind the end
  pub begin_next : (k start end : ℕ) → start ≡ begin_of b t k → end ≡ end_at b t start → end + 1 ≡ begin_of b t (k + 1)
  unfolding begin_of
  begin_next k start end s e = rw (add-one, add-one, e, s)

  -- so each begins behind the one before
  begin_up : (k j i : ℕ) → i ≡ k + j → begin_of b t k ≤ begin_of b t i
  begin_up k zero i e = subst (λ (x : ℕ). begin_of b t k ≤ begin_of b t x) (same_place k i e) (omega arith)
    where
      same_place : (k i : ℕ) → i ≡ k + zero → k ≡ i
      same_place k i e = omega arith
  begin_up k (suc j) i e =
      let there = begin_next (k + j) _ _ refl refl in
      subst (λ (x : ℕ). begin_of b t k ≤ begin_of b t x) (further k j i e) (omega (arith, begin_up k j (k + j) refl, end_behind (begin_of b t (k + j)), there))
    where
      further : (k j i : ℕ) → i ≡ k + suc j → k + j + 1 ≡ i
      further k j i e = omega arith

  -- a text that has ended has no further piece
  pub none_left : (k i start end : ℕ) → k < i → start ≡ begin_of b t k → end ≡ end_at b t start → end ≡ length t → false ≡ has_piece b t i
  unfolding has_piece
  none_left k i start end h s e l =
      let behind = begin_next k start end s e in
      let far = begin_up (k + 1) (i - (k + 1)) i (back i k h) in
      sym (lt-leb (begin_of b t i) (length t) (omega (arith, l, behind, far)))
    where
      back : (i k : ℕ) → k < i → i ≡ k + 1 + (i - (k + 1))
      back i k h = omega arith

  -- a piece that begins in the text is there
  pub has_one : (i start : ℕ) → start ≡ begin_of b t i → start ≤ length t → true ≡ has_piece b t i
  unfolding has_piece
  has_one i start s h = sym (le-leb (begin_of b t i) (length t) (omega (arith, s, h)))

  -- all pieces before it were passed
  pub begin_all : (k i start : ℕ) → k ≤ i → i ≤ k → start ≡ begin_of b t k → start ≡ begin_of b t i
  begin_all k i start l h s = s ∙ ap (begin_of b t) (omega arith)
