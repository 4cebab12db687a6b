-- Two indexes that read alike, inner reaches included, have the same faults at the same places. Assumes nothing.
use Prim.Native.Nat.{◌+◌, ◌<◌, ℕ}
use Rattle.laws.proofs.Maps.{map_same}
use Rattle.laws.proofs.Ranges.{at_every, range-every}
use Rattle.laws.specs.Every.{Every}
use Rattle.laws.specs.Lists.{any, each, greatest, has, keep, range}
use Rattle.limits.specs.Said.{Said}
use Rattle.tree.proofs.Alike.{Alike, distances-same, first-same, inner-same, nearest-same, run-same}
use Rattle.tree.specs.Check.{again, faults, in_run, kids, strays, wrong_dist, wrong_inner, wrong_radius, wrong_reach_lem}
use Rattle.words.specs.InShape.{InShape}
use Rattle.words.specs.Shape.{inner}
use Rattle.words.specs.Words.{nodes#, child#, count#, dist#, edition#, first#, inner#, m#, n#, row#, run#, start#}
use lib.Dec.{eqb, leb, ltb}
use mathlib.Core.Bool.{Bool, ◌&&◌, ◌||◌, cond, false, not, true}
use mathlib.Core.List.{List, [], ◌++◌, ◌∷◌, map}
use mathlib.Core.Path.{◌∙◌, ◌≡◌, ap, ap₂, refl}
use native.Mathlib.Omega.{arith}

-- ---- tests that agree on the elements of a list
module _ (f g : ℕ → Bool) where
  -- keep the same
  keep_same : (xs : List ℕ) → Every (λ a. f a ≡ g a) xs → keep f xs ≡ keep g xs
  keep_same [] h = refl
  keep_same (x ∷ xs) h = ap₂ (λ (b : Bool) (l : List ℕ). cond b (x ∷ l) l) h.0 (keep_same xs h.1)

  -- and both pass at one, or neither does
  any_same : (xs : List ℕ) → Every (λ a. f a ≡ g a) xs → any f xs ≡ any g xs
  any_same [] h = refl
  any_same (x ∷ xs) h = ap₂ (λ (a b : Bool). a || b) h.0 (any_same xs h.1)

-- lists that are the same for each element are the same one after the other
each_same : (f g : ℕ → List Said) (xs : List ℕ) → Every (λ a. f a ≡ g a) xs → each f xs ≡ each g xs
each_same f g [] h = refl
each_same f g (x ∷ xs) h = ap₂ (λ (a b : List Said). a ++ b) h.0 (each_same f g xs h.1)

module _ {w v : List ℕ} (A : Alike w v) (S : InShape w) (d : ℕ → ℕ → ℕ) (edition : edition# v ≡ edition# w)
    (inners : (k : ℕ) → k < nodes# w → inner# v k ≡ inner# w k) where
  -- how far the row at position p is from node k's first
  far-same : (p k : ℕ) → p < n# w → k < nodes# w → d (first# v k) (row# v p) ≡ d (first# w k) (row# w p)
  far-same p k q h = ap₂ d (first-same A S d k h) (A.row p q)

  -- ---- 10
  -- a row number that stands again does so in both
  again-same : (p : ℕ) → p < n# w → again v p ≡ again w p
  unfolding again
  again-same p h =
      ap₂ has (A.row p h) (map_same (row# v) (row# w) (range 0 p) (at_every (λ q. row# v q ≡ row# w q) p (λ q l. A.row q (omega arith))))

  -- ---- 11
  -- position p lies in the same runs
  in-run-same : (p k : ℕ) → k < nodes# w → in_run v p k ≡ in_run w p k
  in-run-same p k h = ap₂ (λ (s c : ℕ). leb s p && ltb p (s + c)) (A.start k h) (A.count k h)

  -- a stored distance that is wrong is wrong in both
  dist_same : (p : ℕ) → p < n# w → wrong_dist d v p ≡ wrong_dist d w p
  unfolding wrong_dist
  dist_same p q =
      let f : List ℕ → ℕ → Bool = λ u k. not (inner u k) && in_run u p k && not (eqb (dist# u p) (d (first# u k) (row# u p))) in
      ap (λ (N : ℕ). any (f v) (range 0 N)) A.nodes
      ∙ any_same (f v) (f w) (range 0 (nodes# w)) (at_every (λ k. f v k ≡ f w k) (nodes# w)
      (λ k h. ap₂ (λ (a b : Bool). a && b) (ap₂ (λ (a b : Bool). not a && b) (inner-same A k h) (in-run-same p k h))
      (ap₂ (λ (a b : ℕ). not (eqb a b)) (A.dist p q) (far-same p k q h))))

  -- ---- 12
  -- so is a radius
  radius-same : (k : ℕ) → k < nodes# w → wrong_radius d v k ≡ wrong_radius d w k
  unfolding wrong_radius
  radius-same k h = ap₂ (λ (a b : ℕ). not (eqb a b)) (A.radius k h) (ap greatest (distances-same A S d k h))

  -- and a reach, outer or inner
  reach-same : (k : ℕ) → k < nodes# w → wrong_reach_lem d v k ≡ wrong_reach_lem d w k
  unfolding wrong_inner
  reach-same k h =
      ap₂ (λ (a b : Bool). a || b) (radius-same k h)
      (ap₂ (λ (e : ℕ) (b : Bool). eqb e 2 && not b) edition (ap₂ (λ (a b : ℕ). eqb a b) (inners k h) (nearest-same A S d k h)))

  -- ---- 13
  -- a node's children have the same numbers
  kids-same : (k : ℕ) → k < nodes# w → kids v k ≡ kids w k
  kids-same k h =
      ap₂ (λ (b : Bool) (l : List ℕ). cond b l []) (inner-same A k h) (ap₂ range (A.child k h) A.fan)

  -- a fact of all nodes is one of its children
  kids-have : (P : ℕ → Type 0) → ((j : ℕ) → j < nodes# w → P j) → (k : ℕ) → k < nodes# w → Every P (kids w k)
  kids-have P f k h = go (inner w k) refl
    where
      go : (b : Bool) → inner w k ≡ b → Every P (cond b (range (child# w k) (m# w)) [])
      go true e =
          range-every P (child# w k) (m# w) (λ i q. f (child# w k + i) (omega (arith, ((S.node k h).kids e).inside)))
      go false e = tt

  -- and a member that is closer to another centre
  stray-same : (k p : ℕ) → k < nodes# w → p < n# w → strays d v k p ≡ strays d w k p
  unfolding strays
  stray-same k p h q =
      let closer : List ℕ → ℕ → ℕ → Bool = λ u j i. ltb (d (first# u i) (row# u p)) (d (first# u j) (row# u p)) in
      let f : List ℕ → ℕ → Bool = λ u j. in_run u p j && any (closer u j) (kids w k) in
      ap (λ (ks : List ℕ). any (λ j. in_run v p j && any (closer v j) ks) ks) (kids-same k h)
      ∙ any_same (f v) (f w) (kids w k) (kids-have (λ j. f v j ≡ f w j)
      (λ j hj. ap₂ (λ (a b : Bool). a && b) (in-run-same p j hj)
      (any_same (closer v j) (closer w j) (kids w k) (kids-have (λ i. closer v j i ≡ closer w j i)
      (λ i hi. ap₂ (λ (a b : ℕ). ltb a b) (far-same p i q hi) (far-same p j q hj)) k h))) k h)

  -- THE FULL CHECK FINDS THE SAME
  pub faults-same : faults d v ≡ faults d w
  unfolding faults
  faults-same =
      let F : List ℕ → ℕ → List Said = λ u k. map (λ p. (13, k, p)) (keep (strays d u k) (run# u k)) in
      let a : keep (again v) (range 0 (n# v)) ≡ keep (again w) (range 0 (n# w)) =
      ap (λ (n : ℕ). keep (again v) (range 0 n)) A.rows
      ∙ keep_same (again v) (again w) (range 0 (n# w)) (at_every (λ p. again v p ≡ again w p) (n# w) again-same) in
      let b : keep (wrong_dist d v) (range 0 (n# v)) ≡ keep (wrong_dist d w) (range 0 (n# w)) =
      ap (λ (n : ℕ). keep (wrong_dist d v) (range 0 n)) A.rows
      ∙ keep_same (wrong_dist d v) (wrong_dist d w) (range 0 (n# w)) (at_every (λ p. wrong_dist d v p ≡ wrong_dist d w p) (n# w) dist_same) in
      let c : keep (wrong_reach_lem d v) (range 0 (nodes# v)) ≡ keep (wrong_reach_lem d w) (range 0 (nodes# w)) =
      ap (λ (n : ℕ). keep (wrong_reach_lem d v) (range 0 n)) A.nodes
      ∙ keep_same (wrong_reach_lem d v) (wrong_reach_lem d w) (range 0 (nodes# w)) (at_every (λ k. wrong_reach_lem d v k ≡ wrong_reach_lem d w k) (nodes# w) reach-same) in
      let e : each (F v) (range 0 (nodes# v)) ≡ each (F w) (range 0 (nodes# w)) =
      ap (λ (n : ℕ). each (F v) (range 0 n)) A.nodes
      ∙ each_same (F v) (F w) (range 0 (nodes# w)) (at_every (λ k. F v k ≡ F w k) (nodes# w)
      (λ k h. ap (map (λ p. (13, k, p))) (ap (keep (strays d v k)) (run-same A S d k h)
      ∙ keep_same (strays d v k) (strays d w k) (run# w k) (range-every (λ p. strays d v k p ≡ strays d w k p) (start# w k) (count# w k)
      (λ i q. stray-same k (start# w k + i) h (omega (arith, (S.node k h).run))))))) in
      let G : List ℕ → List ℕ → List ℕ → List Said → List Said =
      λ x y z r. map (λ p. (10, p, 0)) x ++ map (λ p. (11, p, 0)) y ++ map (λ k. (12, k, 0)) z ++ r in
      ap₂ (λ (x y : List ℕ). G x y (keep (wrong_reach_lem d v) (range 0 (nodes# v))) (each (F v) (range 0 (nodes# v)))) a b
      ∙ ap₂ (λ (z : List ℕ) (r : List Said). G (keep (again w) (range 0 (n# w))) (keep (wrong_dist d w) (range 0 (n# w))) z r) c e
