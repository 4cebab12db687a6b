-- The radius search is exact on a tree that fits its table: a row's how-byte is 2 or 3 exactly if it is not gone and its distance is at most r.
-- Assumes nothing.
use Prim.Native.Nat.{◌%◌, ◌+◌, ◌≤◌, ℕ}
use Rattle.laws.proofs.Every.{every-all, every_append, every_map, every_of, every_rest}
use Rattle.laws.proofs.Times.{lefts}
use Rattle.laws.specs.Every.{Every}
use Rattle.laws.specs.Lists.{gap, head, rest}
use Rattle.measure.specs.Space.{Point}
use Rattle.tree.proofs.Full.{Full}
use Rattle.tree.proofs.Sound.{Sound, Valid, valid-under, valid-zero}
use Rattle.tree.specs.Grove.{Grove, Reach, bare, first, firsts, fork, leaf, rows_in}
use Rattle.tree.specs.Homes.{child_bound_lem, nearest_of}
use Rattle.tree.specs.Radius.{by_distance, in_leaf_lem, marks, marks_in, shown, visit}
use borrow.Author.Tests.{leb-false, leb-true, ltb-true}
use lib.Dec.{leb, ltb}
use mathlib.Core.Bool.{Bool, cond, false, true, true≢false}
use mathlib.Core.List.{List, ◌++◌, map}
use mathlib.Core.Logic.{◌↔◌}
use mathlib.Core.Path.{◌≡◌, refl}
use native.Mathlib.Omega.{arith}

module _ (x : ℕ → ℕ) (r : ℕ) where
  -- a mark is right: in exactly if the row's distance is at most r
  abbrev pub Exact : ℕ × ℕ → Type 0
  Exact m = (2 ≤ m.1 → x m.0 ≤ r) × (x m.0 ≤ r → 2 ≤ m.1)

  -- and so it stays for a row that is not gone, while one that is gone is never in
  pub shown-exact : (gone : ℕ → Bool) (m : ℕ × ℕ) → Exact m → (2 ≤ (shown gone m).1) ↔ ((gone m.0 ≡ false) × (x m.0 ≤ r))
  shown-exact gone m h = go (gone m.0)
    where
      go : (b : Bool) → (2 ≤ cond b (m.1 % 2) m.1) ↔ ((b ≡ false) × (x m.0 ≤ r))
      go true = (λ k. absurd (omega arith), λ k. absurd (true≢false k.0))
      go false = (λ k. (refl, h.0 k), λ k. h.1 k.1)

  -- of a measured row
  distance-exact : (i : ℕ) → Exact (i, by_distance x r i)
  distance-exact i = go (leb (x i) r) refl
    where
      go : (b : Bool) → leb (x i) r ≡ b → Exact (i, cond b 3 1)
      go true e = omega (arith, leb-true (x i) r e)
      go false e = omega (arith, leb-false (x i) r e)

  -- swept, closed or opened
  visit-exact : (xf : ℕ) (R : Reach) (b : ℕ) (others : List ℕ) (opened : List (ℕ × ℕ))
      → Every (λ i. x i ≤ xf + R.outer) others → Every (λ i. b ≤ x i) others → Every Exact opened → Every Exact (visit x r xf R b others opened)
  visit-exact xf R b others opened hu hb ho = go (leb (xf + R.outer) r) (ltb r b) refl refl
    where
      go : (s t : Bool) → leb (xf + R.outer) r ≡ s → ltb r b ≡ t
          → Every Exact (cond s (map (λ i. (i, 2)) others) (cond t (map (λ i. (i, 0)) others) opened))
      go true t e k =
          every_map Exact (λ i. (i, 2)) others
          (every_of (λ i. x i ≤ xf + R.outer) (λ i. Exact (i, 2)) (λ i h. omega (arith, leb-true (xf + R.outer) r e)) others hu)
      go false true e k =
          every_map Exact (λ i. (i, 0)) others
          (every_of (λ i. b ≤ x i) (λ i. Exact (i, 0)) (λ i h. omega (arith, ltb-true r b k)) others hb)
      go false false e k = ho

module _ (d : ℕ → ℕ → ℕ) (x : ℕ → ℕ) (r : ℕ) (M : Point d x) where
  -- of a row in an opened leaf
  leaf-exact : (f : ℕ) (e : ℕ × ℕ) → d f e.0 ≡ e.1 → Exact x r (e.0, in_leaf_lem x r f e)
  leaf-exact f e h = go (ltb r (gap (x f) e.1)) (leb (x f + e.1) r) refl refl
    where
      go : (s t : Bool) → ltb r (gap (x f) e.1) ≡ s → leb (x f + e.1) r ≡ t
          → Exact x r (e.0, cond s 0 (cond t 2 (by_distance x r e.0)))
      go true t k q = omega (arith, ltb-true r (gap (x f) e.1) k, M.up f e.0, M.down f e.0, M.across f e.0)
      go false true k q = omega (arith, leb-true (x f + e.1) r q, M.up f e.0)
      go false false k q = distance-exact x r e.0

  -- no row of a node is farther than its first and its radius together
  reach-up : (f R : ℕ) (is : List ℕ) → Every (λ i. d f i ≤ R) is → Every (λ i. x i ≤ x f + R) is
  reach-up f R is h = every_of (λ i. d f i ≤ R) (λ i. x i ≤ x f + R) (λ i k. omega (arith, M.up f i)) is h

  -- every mark below a node is right, where no row is closer than the node's bound
  marksIn-exact : (β : ℕ → Reach → ℕ) (g : Grove) → Full g → Sound d g → Valid x β g → Every (Exact x r) (marks_in x r β g)
  unfolding marks_in
  marksIn-exact β bare w hs hv = tt
  marksIn-exact β (leaf R es g) w hs hv =
      let f : ℕ = head (lefts es) in
      every_append (Exact x r) (visit x r (x f) R (β (x f) R) (rest (lefts es)) (map (λ e. (e.0, in_leaf_lem x r f e)) (rest es))) (marks_in x r β g)
      (visit-exact x r (x f) R (β (x f) R) (rest (lefts es)) (map (λ e. (e.0, in_leaf_lem x r f e)) (rest es))
      (every_rest (λ i. x i ≤ x f + R.outer) (lefts es) (reach-up f R.outer (lefts es) hs.1.up))
      hv.0
      (every_map (Exact x r) (λ e. (e.0, in_leaf_lem x r f e)) (rest es)
      (every_rest (λ e. Exact x r (e.0, in_leaf_lem x r f e)) es
      (every_of (λ e. d f e.0 ≡ e.1) (λ e. Exact x r (e.0, in_leaf_lem x r f e)) (λ e h. leaf-exact f e h) es hs.0))))
      (marksIn-exact β g w.1 hs.2 hv.1)
  marksIn-exact β (fork R ks g) w hs hv =
      let f : ℕ = first ks in
      let opened : List (ℕ × ℕ) = map (λ i. (i, by_distance x r i)) (rest (firsts ks)) ++ marks_in x r (child_bound_lem (β (x f) R) (nearest_of x ks)) ks in
      every_append (Exact x r) (visit x r (x f) R (β (x f) R) (rest (rows_in ks)) opened) (marks_in x r β g)
      (visit-exact x r (x f) R (β (x f) R) (rest (rows_in ks)) opened
      (every_rest (λ i. x i ≤ x f + R.outer) (rows_in ks) (reach-up f R.outer (rows_in ks) hs.1.up))
      hv.0
      (every_append (Exact x r) (map (λ i. (i, by_distance x r i)) (rest (firsts ks))) (marks_in x r (child_bound_lem (β (x f) R) (nearest_of x ks)) ks)
      (every_map (Exact x r) (λ i. (i, by_distance x r i)) (rest (firsts ks))
      (every-all (λ i. Exact x r (i, by_distance x r i)) (distance-exact x r) (rest (firsts ks))))
      (marksIn-exact (child_bound_lem (β (x f) R) (nearest_of x ks)) ks w.1 hs.2 (valid-under d x M (β (x f) R) ks w.1 hv.0 hs.0 hs.2))))
      (marksIn-exact β g w.2 hs.3 hv.1)

  -- every mark that the search makes is right
  pub marks-exact : (t : Grove) → Full t → Sound d t → Every (Exact x r) (marks x r t)
  unfolding marks
  marks-exact t w hs =
      every_append (Exact x r) (map (λ f. (f, by_distance x r f)) (firsts t)) (marks_in x r (λ x R. 0) t)
      (every_map (Exact x r) (λ i. (i, by_distance x r i)) (firsts t) (every-all (λ i. Exact x r (i, by_distance x r i)) (distance-exact x r)
      (firsts t)))
      (marksIn-exact (λ x R. 0) t w hs (valid-zero x t))
