-- The numbers that children get, and where levels start. Assumes nothing.
use Prim.Native.Nat.{◌+◌, ◌-◌, ◌≤◌, suc, zero, ℕ}
use Rattle.words.specs.Shape.{born, brood, inner, level}
use Rattle.words.specs.Words.{child#, m#}
use borrow.Author.Tests.{ne_eqb}
use lib.Dec.{eqb}
use mathlib.Core.Bool.{Bool, cond, false, not, true}
use mathlib.Core.List.{List}
use mathlib.Core.Path.{◌≡◌, ap, subst}
use native.Mathlib.Nat.{add-suc, add-zero}
use native.Mathlib.Omega.{arith}

module _ (w : List ℕ) where
  -- a node with a first child is inner
  pub inner-is : (k : ℕ) → (child# w k ≡ 0 → ⊥) → inner w k ≡ true
  inner-is k h = ap not (ne_eqb (child# w k) 0 h)

  -- no node has more than 64 children
  pub brood-few : (k : ℕ) → m# w ≤ 64 → brood w k ≤ 64
  brood-few k h = go (inner w k)
    where
      go : (b : Bool) → cond b (m# w) 0 ≤ 64
      go true = h
      go false = omega arith

  -- ---- children's numbers grow
  -- one node more
  born-step : (k : ℕ) → born w k ≤ born w (suc k)
  unfolding born
  born-step k = omega arith

  -- an inner node's m children take the next numbers
  pub born-inner : (k : ℕ) → inner w k ≡ true → born w (suc k) ≡ born w k + m# w
  unfolding born
  born-inner k e = ap (λ b. born w k + cond b (m# w) 0) e

  -- a leaf takes none
  pub born-leaf : (k : ℕ) → child# w k ≡ 0 → born w (suc k) ≡ born w k
  unfolding born
  born-leaf k e =
      let q : inner w k ≡ false = ap (λ j. not (eqb j 0)) e in
      rw q (omega arith)

  -- j nodes more
  born-more : (k j : ℕ) → born w k ≤ born w (k + j)
  born-more k zero = rw add-zero (omega arith)
  born-more k (suc j) = rw add-suc (omega (arith, born-more k j, born-step (k + j)))

  -- later nodes' children have no lower numbers
  pub born-le : (k j : ℕ) → k ≤ j → born w k ≤ born w j
  born-le k j h = subst (λ i. born w k ≤ born w i) (omega arith) (born-more k (j - k))

  -- ---- levels follow each other
  -- a level starts no earlier than the one above it
  level-step : (d : ℕ) → level w d ≤ level w (suc d)
  unfolding level
  level-step zero = omega arith
  level-step (suc d) = born-le (level w d) (level w (suc d)) (level-step d)

  -- nor than one j levels above
  level_more : (d j : ℕ) → level w d ≤ level w (d + j)
  level_more d zero = rw add-zero (omega arith)
  level_more d (suc j) = rw add-suc (omega (arith, level_more d j, level-step (d + j)))

  -- deeper levels start no earlier
  pub level-le : (d e : ℕ) → d ≤ e → level w d ≤ level w e
  level-le d e h = subst (λ i. level w d ≤ level w i) (omega arith) (level_more d (e - d))

  -- no level starts after a node whose own children would come before it
  pub level-stays : (k d : ℕ) → born w k ≤ k → level w d ≤ k
  unfolding level
  level-stays k zero h = omega arith
  level-stays k (suc d) h = omega (arith, born-le (level w d) k (level-stays k d h))
