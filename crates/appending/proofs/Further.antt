-- How far a node reaches that takes one row more. Assumes nothing.
use Prim.Native.Nat.{◌≤◌, max, min, ℕ}
use Rattle.appending.proofs.Lowest.{greatest_more, head_more, lowest_more}
use Rattle.appending.specs.Append.{reach_with}
use Rattle.laws.proofs.Every.{every-unmap, greatest_le, lowest_le}
use Rattle.laws.specs.Every.{Every}
use Rattle.laws.specs.Lists.{greatest, head, lowest, rest, times}
use Rattle.limits.specs.Limits.{max_distance}
use Rattle.tree.proofs.Grown.{Spans, greatest-same, lowest-same, rest_same}
use Rattle.tree.proofs.Shaped.{Small}
use Rattle.tree.proofs.Sound.{Reaches}
use Rattle.tree.specs.Build.{reach}
use Rattle.tree.specs.Grove.{Reach, reaching}
use lib.Dec.{eqb}
use lib.ListN.{length, length-append}
use mathlib.Core.Bool.{Bool, cond, false, true}
use mathlib.Core.List.{List, [], ◌++◌, ◌∷◌, map}
use mathlib.Core.Path.{◌∙◌, ◌≡◌, ap, ap₂, subst, sym}
use native.Mathlib.Omega.{arith}

-- the new reach is in range
pub small_more : (k : ℕ) (R : Reach) (v : ℕ) → Small R → v ≤ max_distance → Small (reach_with k R v)
small_more k R v s h = (omega (arith, s.0), go (eqb k 1))
  where
    go : (b : Bool) → cond b v (min R.inner v) ≤ max_distance
    go true = h
    go false = omega arith

module _ (d : ℕ → ℕ → ℕ) where
  -- an exact reach is not broken
  pub spans-reaches : (R : Reach) (f : ℕ) (is : List ℕ) → Spans d R f is → Reaches d R f is
  spans-reaches R f is s =
      let all : List ℕ = map (d f) is in
      let others : List ℕ = map (d f) (rest is) in
      record {
        up = subst (λ (r : ℕ). Every (λ i. d f i ≤ r) is) (sym s.0) (every-unmap (λ v. v ≤ greatest all) (d f) is (greatest_le all));
        low = subst (λ (r : ℕ). Every (λ i. r ≤ d f i) (rest is)) (sym s.1)
            (every-unmap (λ v. lowest others ≤ v) (d f) (rest is) (lowest_le others));
      }

  -- AN EXACT REACH WITH ONE ROW MORE IS EXACT, in any order with the same first
  pub spans-more : (R : Reach) (f z : ℕ) (is js : List ℕ) → 1 ≤ length is → 1 ≤ length js → head js ≡ head is
      → ((i : ℕ) → times i js ≡ times i (is ++ z ∷ [])) → Spans d R f is → Spans d (reach_with (length is) R (d f z)) f js
  spans-more R f z is js some long q e s =
      let more : 1 ≤ length (is ++ z ∷ []) = omega (arith, length-append is (z ∷ [])) in
      let hd : head js ≡ head (is ++ z ∷ []) = q ∙ sym (head_more is z some) in (
        ap (λ (r : ℕ). max r (d f z)) s.0 ∙ sym (greatest_more (d f) is z) ∙ greatest-same (d f) (is ++ z ∷ []) js e,
        ap (λ (r : ℕ). cond (eqb (length is) 1) (d f z) (min r (d f z))) s.1 ∙ lowest_more (d f) is z some
            ∙ lowest-same (d f) (rest (is ++ z ∷ [])) (rest js) (rest_same (is ++ z ∷ []) js more long hd e),
      )

  -- and so is that of the run
  pub reach-more : (R : Reach) (z : ℕ) (is js : List ℕ) → 1 ≤ length is → 1 ≤ length js → head js ≡ head is
      → ((i : ℕ) → times i js ≡ times i (is ++ z ∷ [])) → Spans d R (head is) is → reach_with (length is) R (d (head is) z) ≡ reach d js
  reach-more R z is js some long q e s =
      let p = spans-more R (head is) z is js some long q e s in
      ap₂ (λ (o i : ℕ). reaching o i) p.0 p.1
      ∙ ap (λ (f : ℕ). reaching (greatest (map (d f) js)) (lowest (map (d f) (rest js)))) (sym q)
