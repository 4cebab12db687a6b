-- An index in shape: what the passes use of its nodes. Assumes nothing.
use Prim.Native.Nat.{◌+◌, ◌<◌, ◌≤◌, ℕ}
use Rattle.tree.specs.Check.{in_run}
use Rattle.words.specs.InShape.{InShape}
use Rattle.words.specs.Shape.{inner}
use Rattle.words.specs.Words.{nodes#, child#, count#, m#, start#}
use borrow.Author.Tests.{le-ltb, lt-leb, ne_eqb}
use lib.Dec.{eqb, leb}
use mathlib.Core.Bool.{and-false, false, not, true}
use mathlib.Core.List.{List}
use mathlib.Core.Path.{◌∙◌, ◌≡◌, ap, sym}
use native.Mathlib.Omega.{arith}

-- ---- a node's kind, by its third word, read as r
-- one that is not 0 is a child's number: the node is inner
pub inner-yes : (w : List ℕ) (k : ℕ) {r : ℕ} → r ≡ child# w k → (r ≡ 0 → ⊥) → inner w k ≡ true
inner-yes w k {r} e h = ap (λ (i : ℕ). not (eqb i 0)) (sym e) ∙ ap not (ne_eqb r 0 h)

-- 0 is a leaf's
pub inner_no : (w : List ℕ) (k : ℕ) {r : ℕ} → r ≡ child# w k → r ≡ 0 → inner w k ≡ false
inner_no w k {r} e h = ap (λ (i : ℕ). not (eqb i 0)) (sym e ∙ h)

-- ---- a position and a node's run
module _ (w : List ℕ) (p k : ℕ) where
  -- it stands before the run
  pub not_yet : p < start# w k → in_run w p k ≡ false
  not_yet h = rw (lt-leb (start# w k) p h)

  -- it stands after the run
  pub no_more : start# w k + count# w k ≤ p → in_run w p k ≡ false
  no_more h = rw (le-ltb p (start# w k + count# w k) h) (and-false (leb (start# w k) p))

-- ---- a child
-- child a of inner node k, whose first child is read as ch: it is a node, and its run lies in node k's
pub record Kid (w : List ℕ) (k a ch : ℕ) : Type 0 where
  pub node : ch + a < nodes# w
  pub low : start# w k ≤ start# w (ch + a)
  pub high : start# w (ch + a) + count# w (ch + a) ≤ start# w k + count# w k

-- each of an inner node's m children is such a one
pub kid_of : (w : List ℕ) → InShape w → (k a : ℕ) {ch : ℕ} → ch ≡ child# w k → k < nodes# w → inner w k ≡ true → a < m# w → Kid w k a ch
kid_of w S k a e h i q =
    let K = (S.node k h).kids i in
    let p = K.part a q in
    record {
      node = omega (arith, K.inside);
      low = rw e p.0;
      high = rw e p.1;
    }
