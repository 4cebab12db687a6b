-- The full check accepts a tree that fits its table, once written. Assumes nothing.
use Prim.Native.Nat.{◌+◌, ◌-◌, ◌<◌, ◌≤◌, suc, ℕ}
use Rattle.laws.proofs.Empty.{any_none, each_none, keep-none}
use Rattle.laws.proofs.Every.{every_of}
use Rattle.laws.proofs.Lists.{map-append, tally_append}
use Rattle.laws.proofs.Ranges.{at_every, every-at, every-range, range_append, range-every}
use Rattle.laws.proofs.Tests.{and_l, and_none, and_r, holds}
use Rattle.laws.proofs.Times.{zero_any}
use Rattle.laws.specs.Every.{Every}
use Rattle.laws.specs.Lists.{any, each, greatest, keep, range, times}
use Rattle.limits.specs.Said.{Said}
use Rattle.tree.proofs.Right.{Right}
use Rattle.tree.specs.Check.{again, faults, in_run, nearest#, strays, wrong_dist, wrong_inner, wrong_radius}
use Rattle.words.specs.Shape.{inner}
use Rattle.words.specs.Words.{nodes#, at, child#, count#, dist#, edition#, first#, m#, n#, node_at_lem, radius#, row#, run#, start#}
use borrow.Author.Tests.{eq-eqb, le-ltb}
use lib.Dec.{eqb, leb, leb→le, ltb, ltb→lt}
use mathlib.Core.Bool.{Bool, ◌&&◌, ◌||◌, cond, false, not, true}
use mathlib.Core.List.{List, [], ◌++◌, ◌∷◌, map}
use mathlib.Core.Path.{◌∙◌, ◌≡◌, ap, refl, subst}
use native.Mathlib.Nat.{zero-add}
use native.Mathlib.Omega.{arith}

-- a position in a run
run-range : (w : List ℕ) (p k : ℕ) → in_run w p k ≡ true → (start# w k ≤ p) × (p < start# w k + count# w k)
run-range w p k e =
    let a = leb (start# w k) p in
    let b = ltb p (start# w k + count# w k) in
    let t = holds (a && b) e in
    (leb→le (start# w k) p (and_l a b t), ltb→lt p (start# w k + count# w k) (and_r a b t))

-- a fact of every position of a run is one of each that lies in it
run_at : (P : ℕ → Type 0) (w : List ℕ) (p k : ℕ) → in_run w p k ≡ true → Every P (run# w k) → P p
run_at P w p k e h =
    let r = run-range w p k e in
    subst P (omega arith) (every-range P (start# w k) (count# w k) (p - start# w k) h (omega arith))

-- ---- 10
-- no row number stands again
not-again : (w : List ℕ) → ((i : ℕ) → times i (map (row# w) (range 0 (n# w))) ≤ 1) → (p : ℕ) → p < n# w → again w p ≡ false
unfolding again
not-again w f p h =
    let i : ℕ = row# w p in
    let k : ℕ = n# w - suc p in
    let A : List ℕ = map (row# w) (range 0 p) in
    let B : List ℕ = map (row# w) (range (suc p) k) in
    let e : map (row# w) (range 0 (n# w)) ≡ A ++ i ∷ B =
    ap (λ n. map (row# w) (range 0 n)) (whole p (n# w) h)
    ∙ ap (map (row# w)) (range_append 0 p (suc k) ∙ ap (λ j. range 0 p ++ j ∷ range (suc j) k) (zero-add p))
    ∙ map-append (row# w) (range 0 p) (p ∷ range (suc p) k) in
    let one : cond {A = ℕ} (eqb i i) 1 0 ≡ 1 = ap (λ b. cond {A = ℕ} b 1 0) (eq-eqb i i refl) in
    zero_any i A (omega (arith, f i, ap (times i) e, tally_append (eqb i) A (i ∷ B)))
  where
    whole : (p n : ℕ) → p < n → n ≡ p + suc (n - suc p)
    whole p n h = omega arith

module _ (d : ℕ → ℕ → ℕ) (w : List ℕ) (once : (i : ℕ) → times i (map (row# w) (range 0 (n# w))) ≤ 1) (R : Every (Right d w) (range 0 (nodes# w))) where
  -- each node is right
  right : (k : ℕ) → k < nodes# w → Right d w k
  right k h = every-at (Right d w) (nodes# w) k R h

  -- 11
  not-dist : (p : ℕ) → wrong_dist d w p ≡ false
  unfolding wrong_dist
  not-dist p =
      any_none (λ k. not (inner w k) && in_run w p k && not (eqb (dist# w p) (d (first# w k) (row# w p)))) (range 0 (nodes# w))
      (every_of (Right d w) (λ k. (not (inner w k) && in_run w p k && not (eqb (dist# w p) (d (first# w k) (row# w p)))) ≡ false)
      (λ k r. go k r (inner w k) (in_run w p k) refl refl) (range 0 (nodes# w)) R)
    where
      go : (k : ℕ) → Right d w k → (a b : Bool) → inner w k ≡ a → in_run w p k ≡ b
          → (not a && b && not (eqb (dist# w p) (d (first# w k) (row# w p)))) ≡ false
      go k r true b x y = refl
      go k r false false x y = refl
      go k r false true x y =
          ap not (eq-eqb (dist# w p) (d (first# w k) (row# w p)) (run_at (λ p. dist# w p ≡ d (first# w k) (row# w p)) w p k y (r.dists x)))

  -- 12
  not-radius : (k : ℕ) → k < nodes# w → wrong_radius d w k ≡ false
  unfolding wrong_radius
  not-radius k h = ap not (eq-eqb (radius# w k) (greatest (map (λ p. d (first# w k) (row# w p)) (run# w k))) (right k h).radius)

  -- nor the inner reach
  not-inner : (k : ℕ) → k < nodes# w → wrong_inner d w k ≡ false
  unfolding wrong_inner
  not-inner k h = go (eqb (edition# w) 2) (right k h).inner-reach
    where
      go : (b : Bool) → cond b (at w (node_at_lem w k + 4)) 0 ≡ cond b (nearest# d w k) 0
          → (b && not (eqb (cond b (at w (node_at_lem w k + 4)) 0) (nearest# d w k))) ≡ false
      go true e = ap not (eq-eqb (at w (node_at_lem w k + 4)) (nearest# d w k) e)
      go false e = refl

  -- neither
  not-reach : (k : ℕ) → k < nodes# w → (wrong_radius d w k || wrong_inner d w k) ≡ false
  not-reach k h = rw (not-radius k h) (not-inner k h)

  -- 13
  not-stray : (k p : ℕ) → k < nodes# w → strays d w k p ≡ false
  unfolding strays
  not-stray k p h = go (inner w k) refl
    where
      test : List ℕ → ℕ → Bool
      test ks j = in_run w p j && any (λ i. ltb (d (first# w i) (row# w p)) (d (first# w j) (row# w p))) ks

      go : (b : Bool) → inner w k ≡ b → any (test (cond b (range (child# w k) (m# w)) [])) (cond b (range (child# w k) (m# w)) []) ≡ false
      go true e =
          let ks : List ℕ = range (child# w k) (m# w) in
          any_none (test ks) ks
          (every_of (λ j. Every (λ p. Every (λ i. d (first# w j) (row# w p) ≤ d (first# w i) (row# w p)) ks) (run# w j)) (λ j. test ks j ≡ false)
          (λ j q. and_none (in_run w p j) (any (λ i. ltb (d (first# w i) (row# w p)) (d (first# w j) (row# w p))) ks)
          (λ y. any_none (λ i. ltb (d (first# w i) (row# w p)) (d (first# w j) (row# w p))) ks
          (every_of (λ i. d (first# w j) (row# w p) ≤ d (first# w i) (row# w p))
          (λ i. ltb (d (first# w i) (row# w p)) (d (first# w j) (row# w p)) ≡ false)
          (λ i z. le-ltb (d (first# w i) (row# w p)) (d (first# w j) (row# w p)) z) ks
          (run_at (λ p. Every (λ i. d (first# w j) (row# w p) ≤ d (first# w i) (row# w p)) ks) w p j y q))))
          ks ((right k h).near e))
      go false e = refl

  -- THE FULL CHECK FINDS NO FAULT
  pub no-fault : faults d w ≡ []
  unfolding faults
  no-fault =
      let ps : List ℕ = range 0 (n# w) in
      let ns : List ℕ = range 0 (nodes# w) in
      let a = keep-none (again w) ps (at_every (λ p. again w p ≡ false) (n# w) (λ p h. not-again w once p h)) in
      let b = keep-none (wrong_dist d w) ps (at_every (λ p. wrong_dist d w p ≡ false) (n# w) (λ p h. not-dist p)) in
      let o : ℕ → Bool = λ k. wrong_radius d w k || wrong_inner d w k in
      let c = keep-none o ns (at_every (λ k. o k ≡ false) (nodes# w) (λ k h. not-reach k h)) in
      let f : ℕ → List Said = λ k. map (λ p. (13, k, p)) (keep (strays d w k) (run# w k)) in
      let e : each f ns ≡ [] = each_none f ns (at_every (λ k. f k ≡ []) (nodes# w)
      (λ k h. ap (map (λ p. (13, k, p))) (keep-none (strays d w k) (run# w k)
      (range-every (λ p. strays d w k p ≡ false) (start# w k) (count# w k) (λ i q. not-stray k (start# w k + i) h))))) in
      let g : List ℕ → List ℕ → List ℕ → List Said → List Said =
      λ x y z r. map (λ p. (10, p, 0)) x ++ map (λ p. (11, p, 0)) y ++ map (λ k. (12, k, 0)) z ++ r in
      ap (λ x. g x (keep (wrong_dist d w) ps) (keep o ns) (each f ns)) a ∙ ap (λ y. g [] y (keep o ns) (each f ns)) b
      ∙ ap (λ z. g [] [] z (each f ns)) c ∙ e
