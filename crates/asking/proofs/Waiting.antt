-- An option that waits for its value, one word a turn. Assumes nothing.
use Prim.Native.Nat.{◌+◌, ◌<◌, ◌≤◌, ℕ}
use Rattle.asking.specs.declared.pieces.Piece.{Piece}
use Rattle.asking.specs.Pieces.{Stands, has_piece}
use Rattle.asking.specs.Words.{ended, said, valued, waits}
use Rattle.asking.proofs.Saying.{part-piece, same_equal}
use Rattle.laws.proofs.Never.{never}
use Rattle.laws.specs.Lists.{same}
use borrow.Author.Tests.{lt-ltb, le-ltb}
use lib.Dec.{eqb}
use lib.Pointwise.{pointwise}
use lib.ListN.{length, take}
use mathlib.Core.Bool.{Bool, cond, false, true}
use mathlib.Core.List.{List, [], ◌∷◌}
use mathlib.Core.Path.{◌∙◌, ◌≡◌, refl}
use native.Mathlib.Numerals.{add-one}

-- ---- one word
module _ (t : List ℕ) (i : ℕ) where
  -- there is none
  pub ended_none : has_piece 0 t i ≡ false → ended t i ≡ false
  unfolding ended
  ended_none e = rw e

  -- it is there
  module _ {p : Piece} (f : Stands 0 t i p) where
    -- ended
    pub ended_some : p.end < length t → ended t i ≡ true
    unfolding ended
    ended_some l = rw (f.has, ← f.starts, ← f.ends) (lt-ltb p.end (length t) l)

    -- or not
    pub ended_not : length t ≤ p.end → ended t i ≡ false
    unfolding ended
    ended_not l = rw (f.has, ← f.starts, ← f.ends) (le-ltb p.end (length t) l)

-- ---- the words so far
-- none
pub waits_none : (t : List ℕ) → waits t 0 ≡ false
unfolding waits
waits_none t = refl

module _ (t : List ℕ) (i : ℕ) where
  -- no word more
  pub waits_same : ended t i ≡ false → waits t i ≡ waits t (i + 1)
  unfolding waits
  waits_same e = rw (add-one, e)

  -- one word more
  pub waits_next : ended t i ≡ true → {p : Piece} → Stands 0 t i p → {was now : Bool} → was ≡ waits t i → now ≡ cond was false (valued (said t p)) → now ≡ waits t (i + 1)
  unfolding waits
  waits_next e f h k = rw (add-one, e, ← part-piece f, ← h) k

-- ---- a word that does not begin with two dashes
module _ (w n : List ℕ) (e : n ≡ 45 ∷ 45 ∷ []) where
  -- one that does begins with them
  dashed : (x : List ℕ) → w ≡ 45 ∷ 45 ∷ x → pointwise eqb n (take (length n) w) ≡ true
  dashed x q = rw (e, q)

  module _ (h : false ≡ pointwise eqb n (take (length n) w)) where
    -- this one is none of those that do
    undashed : (x : List ℕ) → same w (45 ∷ 45 ∷ x) ≡ false
    undashed x = go (same w (45 ∷ 45 ∷ x)) refl
      where
        go : (r : Bool) → same w (45 ∷ 45 ∷ x) ≡ r → same w (45 ∷ 45 ∷ x) ≡ false
        go true q = never (h ∙ dashed x (same_equal w (45 ∷ 45 ∷ x) q))
        go false q = q

    -- so it is no option that waits for a value
    pub plain_word : {s : List ℕ} → w ≡ s → valued s ≡ false
    unfolding valued
    plain_word q = rw (← q) (simp undashed)
