-- The walk from the root down to the leaf that a row joins. Assumes nothing.
use Prim.Native.Nat.{◌+◌, ◌-◌, ◌<◌, ◌≤◌, suc, zero, ℕ}
use Rattle.leafward.specs.Way.{LeafFound, NewRow, closest_kid, left_at, way_to}
use Rattle.limits.specs.Limits.{max_depth}
use Rattle.measure.specs.Table.{between}
use Rattle.words.proofs.InShape.{left_root}
use Rattle.words.proofs.Levels.{inner-is}
use Rattle.words.specs.InShape.{Kids, Left}
use Rattle.words.specs.Shape.{inner}
use Rattle.words.specs.Words.{nodes#, child#, circles#, m#}
use borrow.Author.Tests.{eq-eqb}
use mathlib.Core.Bool.{false, not, true}
use mathlib.Core.List.{List}
use mathlib.Core.Path.{◌∙◌, ◌≡◌, ap, ap₂, refl, subst, sym}
use native.Mathlib.Omega.{arith}

-- ---- one step of the way
module _ (d : ℕ → ℕ → ℕ) (w : List ℕ) (z : ℕ) where
  -- the way ends at a leaf
  pub way_end : (left k : ℕ) → inner w k ≡ false → (way_to d w z left k ≡ k) × (left_at d w z left k ≡ left)
  unfolding way_to left_at
  way_end zero k e = (refl, refl)
  way_end (suc left) k e = (rw e refl, rw e refl)

  -- and goes on from an inner node to its closest child
  pub way_step : (left k : ℕ) → inner w k ≡ true → (way_to d w z (suc left) k ≡ way_to d w z left (child# w k + closest_kid d w z k))
      × (left_at d w z (suc left) k ≡ left_at d w z left (child# w k + closest_kid d w z k))
  unfolding way_to left_at
  way_step left k e = (rw e refl, rw e refl)

-- ---- the walk
-- it has come to a node, whose first child is `child`, with `left` levels to go
pub record Walking (t : List ℕ) (c : ℕ) (w : List ℕ) (z node left child : ℕ) : Type 0 where
  pub lent : NewRow t c w z
  pub there : node < nodes# w
  pub first : child ≡ child# w node
  pub below : Left w left node
  pub way : way_to (between t c (circles# w)) w z max_depth 0 ≡ way_to (between t c (circles# w)) w z left node
  pub levels : left_at (between t c (circles# w)) w z max_depth 0 ≡ left_at (between t c (circles# w)) w z left node

-- at the root
pub walking_start : {t : List ℕ} {c : ℕ} {w : List ℕ} {z child : ℕ} → NewRow t c w z → 1 ≤ nodes# w → child ≡ child# w 0
    → Walking t c w z 0 max_depth child
walking_start {w = w} L h e = record { lent = L; there = omega arith; first = e; below = left_root w; way = refl; levels = refl }

module _ {t : List ℕ} {c : ℕ} {w : List ℕ} {z node left child : ℕ} (W : Walking t c w z node left child) where
  -- a node with a child is inner
  pub walking-inner : (child ≡ 0 → ⊥) → inner w node ≡ true
  walking-inner h = inner-is w node (λ q. h (W.first ∙ q))

  -- its children
  kids : (child ≡ 0 → ⊥) → Kids w node
  kids h = (W.lent.shape.node node W.there).kids (walking-inner h)

  -- a level is left below it
  pub walking-down : (child ≡ 0 → ⊥) → 1 ≤ left
  walking-down h = (kids h).deeper left W.below

  -- its closest child is a node that comes later
  pub walking-later : {r : ℕ} → (child ≡ 0 → ⊥) → r < m# w → (child + r < nodes# w) × (node < child + r)
  walking-later h q = (omega (arith, (kids h).inside, W.first), omega (arith, (kids h).later, W.first))

  -- one step down
  pub walking-step : {r next : ℕ} → (child ≡ 0 → ⊥) → (r ≡ closest_kid (between t c (circles# w)) w z node) × (r < m# w) → next ≡ child# w (child + r)
      → Walking t c w z (child + r) (left - 1) next
  walking-step {r} {next} h q e =
      go left refl
    where
      d : ℕ → ℕ → ℕ
      d = between t c (circles# w)

      here : child + r ≡ child# w node + closest_kid d w z node
      here = ap₂ ◌+◌ W.first q.0

      go : (l : ℕ) → left ≡ l → Walking t c w z (child + r) (left - 1) next
      go zero p = absurd (omega (arith, walking-down h))
      go (suc l) p =
          let s = way_step d w z l node (walking-inner h) in
          let m : l ≡ left - 1 = omega arith in
          record {
            lent = W.lent;
            there = (walking-later h q.1).0;
            first = e;
            below = subst (λ (i : ℕ). Left w (left - 1) (i + r)) (sym W.first) ((kids h).down left r W.below);
            way = W.way ∙ ap (λ (i : ℕ). way_to d w z i node) p ∙ s.0 ∙ ap₂ (way_to d w z) m (sym here);
            levels = W.levels ∙ ap (λ (i : ℕ). left_at d w z i node) p ∙ s.1 ∙ ap₂ (left_at d w z) m (sym here);
          }

  -- a node with no child is the leaf
  pub walking-done : child ≡ 0 → LeafFound (between t c (circles# w)) w z node left
  walking-done h =
      let e : inner w node ≡ false = ap not (eq-eqb (child# w node) 0 (sym W.first ∙ h)) in
      let s = way_end (between t c (circles# w)) w z left node e in
      record { node = sym (W.way ∙ s.0); levels = sym (W.levels ∙ s.1); there = W.there; leaf = e }
