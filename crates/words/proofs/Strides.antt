-- Where nodes' words stand, by the record width. Assumes nothing.
use Prim.Native.Nat.{◌*◌, ◌+◌, ◌<◌, ◌≤◌, ℕ}
use Rattle.words.specs.InShape.{Whole}
use Rattle.words.specs.Words.{nodes#, at, edition#, inner#, n#, node_at_lem, width, words_of_lem}
use borrow.Author.Tests.{eq-eqb, ne_eqb}
use lib.ListN.{length}
use mathlib.Core.List.{List}
use mathlib.Core.Path.{◌≡◌, subst}
use native.Mathlib.Nat.{mul-le-mul_left, mul-le-mul_right, mul-suc}
use native.Mathlib.Numerals.{add-one}
use native.Mathlib.Omega.{arith}

-- the records before the k-th end where it starts, or sooner
pub stride : (b j k : ℕ) → j < k → b * j + b ≤ b * k
stride b j k h = subst (λ (z : ℕ). z ≤ b * k) (mul-suc b j) (mul-le-mul_left b h)

-- a node's words stand a width after those of the one before it
pub node_next : (w : List ℕ) (k : ℕ) → node_at_lem w k + width (edition# w) ≡ node_at_lem w (k + 1)
node_next w k = rw (add-one k) (omega (arith, mul-suc (width (edition# w)) k))

-- a node's words stand before those of a later one
pub node_under : (w : List ℕ) (j k : ℕ) → 1 ≤ edition# w → j < k → node_at_lem w k ≤ length w → (8 ≤ length w) × (node_at_lem w j + 3 < length w)
node_under w j k e h l = (omega (arith, l), omega (arith, stride (width (edition# w)) j k h, l, e))

-- ---- the inner reach, by the edition
module _ (w : List ℕ) (k : ℕ) where
  -- edition 1 has none
  pub inner-none : (edition# w ≡ 2 → ⊥) → 0 ≡ inner# w k
  inner-none h = rw (ne_eqb (edition# w) 2 h)

  -- in edition 2 it is the fifth word
  pub inner-some : edition# w ≡ 2 → at w (node_at_lem w k + 4) ≡ inner# w k
  inner-some e = rw (eq-eqb (edition# w) 2 e)

module _ (w : List ℕ) (W : Whole w) where
  -- the header's words are there
  pub header-in : 8 ≤ length w
  header-in = omega (arith, W.words)

  -- the words of each node are there
  pub words_there : (k : ℕ) → k < nodes# w → (8 ≤ length w) × (node_at_lem w k + 3 < length w)
  words_there k h = node_under w k (nodes# w) W.edition.0 h (omega (arith, W.words))

  -- and so is the fifth, in edition 2
  pub inner-there : (k : ℕ) → k < nodes# w → edition# w ≡ 2 → node_at_lem w k + 4 < length w
  inner-there k h e = omega (arith, stride (width (edition# w)) k (nodes# w) h, W.words, e)

  -- the words of the nodes up to the k-th are there
  pub nodes-there : (k : ℕ) → k ≤ nodes# w → node_at_lem w k ≤ length w
  nodes-there k h = omega (arith, mul-le-mul_left (width (edition# w)) h, W.words)

  -- and in either edition no more than 12n + 8
  pub words-few : words_of_lem w ≤ 12 * n# w + 8
  words-few =
      let a : width (edition# w) * nodes# w ≤ 5 * nodes# w = mul-le-mul_right (nodes# w) (omega (arith, W.edition.1)) in
      omega (arith, a, W.nodes)
