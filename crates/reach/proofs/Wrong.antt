-- The pass for 12: one node's test, by how far its members reach. Assumes nothing.
use Prim.Native.Nat.{ℕ}
use Rattle.reach.specs.Runs.{Reaches}
use Rattle.tree.specs.Check.{nearest#, wrong_inner, wrong_radius, wrong_reach_lem}
use Rattle.words.specs.Words.{edition#, inner#, radius#}
use borrow.Author.Tests.{eq-eqb, ne_eqb}
use lib.Dec.{eqb}
use mathlib.Core.Bool.{Bool, ◌&&◌, ◌||◌, false, not, true}
use mathlib.Core.List.{List}
use mathlib.Core.Path.{◌∙◌, ◌≡◌, ap, ap₂, sym}

-- node k reaches as far as `far` and `near` say, and r is its radius
module _ (d : ℕ → ℕ → ℕ) (w : List ℕ) (k : ℕ) {far near r : ℕ} (R : Reaches d w k far near) (er : r ≡ radius# w k) where
  -- its radius is wrong where r and `far` differ
  radius-is : wrong_radius d w k ≡ not (eqb r far)
  unfolding wrong_radius
  radius-is = rw (er, R.outer)

  -- they differ: the radius is wrong
  pub reach_far : (r ≡ far → ⊥) → true ≡ wrong_reach_lem d w k
  reach_far h = rw (radius-is ∙ ap not (ne_eqb r far h))

  module _ (e : r ≡ far) where
    -- they are the same: it is right
    radius-right : wrong_radius d w k ≡ false
    radius-right = radius-is ∙ ap not (eq-eqb r far e)

    -- and the inner reach i decides
    pub reach_near : {i : ℕ} → edition# w ≡ 2 → i ≡ inner# w k → not (eqb i near) ≡ wrong_reach_lem d w k
    unfolding wrong_inner
    reach_near h p =
        ap₂ (λ a b. not (eqb a b)) p R.inner
        ∙ sym (ap₂ (λ (r v : Bool). r || (v && not (eqb (inner# w k) (nearest# d w k)))) radius-right (eq-eqb (edition# w) 2 h))
