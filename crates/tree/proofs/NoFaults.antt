-- No faults, read: what the full check says node by node and position by position. Assumes nothing.
use Prim.Native.Nat.{◌+◌, ◌-◌, ◌<◌, ◌≤◌, suc, zero, ℕ}
use Rattle.laws.proofs.Empty.{any_false, append-nil-l, append-nil-r, each_nil, keep-nil, map-nil}
use Rattle.laws.proofs.Every.{every_of, every-unmap, greatest_le, lowest_le}
use Rattle.laws.proofs.Ranges.{every-at, every-range}
use Rattle.laws.proofs.Tests.{and_second}
use Rattle.laws.specs.Every.{Every}
use Rattle.laws.specs.Lists.{any, each, greatest, keep, lowest, range, rest}
use Rattle.limits.specs.Said.{Said}
use Rattle.tree.proofs.Fitting.{Fits}
use Rattle.tree.specs.Check.{again, faults, in_run, kids, strays, wrong_dist, wrong_inner, wrong_radius}
use Rattle.words.specs.Shape.{inner}
use Rattle.words.specs.Words.{nodes#, child#, count#, at, dist#, edition#, first#, inner#, m#, n#, node_at_lem, radius#, row#, run#, start#}
use borrow.Author.Tests.{eqb-true, le-leb, lt-ltb, ltb-false, not-false}
use lib.Dec.{T, eqb, ltb}
use mathlib.Core.Bool.{Bool, ◌&&◌, ◌||◌, cond, false, not, true}
use mathlib.Core.List.{List, [], ◌++◌, map}
use mathlib.Core.Path.{◌≡◌, ap, ap₂, refl, subst, sym}
use native.Mathlib.Nat.{add-suc, not-suc-le-zero, suc-add}
use native.Mathlib.Omega.{arith}

-- the four parts
pub record NoFaults (d : ℕ → ℕ → ℕ) (w : List ℕ) : Type 0 where
  pub once : Every (λ p. again w p ≡ false) (range 0 (n# w))
  pub dists : Every (λ p. wrong_dist d w p ≡ false) (range 0 (n# w))
  pub radii : Every (λ k. (wrong_radius d w k || wrong_inner d w k) ≡ false) (range 0 (nodes# w))
  pub near : Every (λ k. Every (λ p. strays d w k p ≡ false) (run# w k)) (range 0 (nodes# w))

-- no fault at all is none of each kind
pub no_faults : (d : ℕ → ℕ → ℕ) (w : List ℕ) → faults d w ≡ [] → NoFaults d w
unfolding faults
no_faults d w e =
    let a : List Said = map (λ p. (10, p, 0)) (keep (again w) (range 0 (n# w))) in
    let b : List Said = map (λ p. (11, p, 0)) (keep (wrong_dist d w) (range 0 (n# w))) in
    let c : List Said = map (λ k. (12, k, 0)) (keep (λ k. wrong_radius d w k || wrong_inner d w k) (range 0 (nodes# w))) in
    let f : ℕ → List Said = λ k. map (λ p. (13, k, p)) (keep (strays d w k) (run# w k)) in
    let g : List Said = each f (range 0 (nodes# w)) in
    let e3 = append-nil-l (a ++ b ++ c) g e in
    let e2 = append-nil-l (a ++ b) c e3 in
    record {
      once = keep-nil (again w) (range 0 (n# w)) (map-nil {B = Said} (λ p. (10, p, 0)) (keep (again w) (range 0 (n# w))) (append-nil-l a b e2));
      dists =
          keep-nil (wrong_dist d w) (range 0 (n# w)) (map-nil {B = Said} (λ p. (11, p, 0)) (keep (wrong_dist d w) (range 0 (n# w)))
          (append-nil-r a b e2));
      radii =
          keep-nil (λ k. wrong_radius d w k || wrong_inner d w k) (range 0 (nodes# w)) (map-nil {B = Said} (λ k. (12, k, 0)) (keep (λ k. wrong_radius d w k || wrong_inner d w k) (range 0 (nodes# w)))
          (append-nil-r (a ++ b) c e3));
      near = every_of (λ k. f k ≡ []) (λ k. Every (λ p. strays d w k p ≡ false) (run# w k))
          (λ k q. keep-nil (strays d w k) (run# w k) (map-nil {B = Said} (λ p. (13, k, p)) (keep (strays d w k) (run# w k)) q))
          (range 0 (nodes# w)) (each_nil f (range 0 (nodes# w)) (append-nil-r (a ++ b ++ c) g e));
    }

-- a position between a run's ends lies in it
pub in_run_lem : (w : List ℕ) (p k : ℕ) → start# w k ≤ p → p < start# w k + count# w k → in_run w p k ≡ true
in_run_lem w p k h h' = rw (le-leb (start# w k) p h, lt-ltb p (start# w k + count# w k) h')

-- neither of two that are not both
or_first : (a b : Bool) → (a || b) ≡ false → a ≡ false
or_first false b e = refl
or_first true b e = e

or_second : (a b : Bool) → (a || b) ≡ false → b ≡ false
or_second false b e = e
or_second true b e = absurd (subst T e tt)

-- a node's inner reach is no more than the distance of a member other than its first
inner_low : (d : ℕ → ℕ → ℕ) (w : List ℕ) (k i : ℕ) → suc i < count# w k → (b : Bool) → eqb (edition# w) 2 ≡ b → wrong_inner d w k ≡ false
    → cond b (at w (node_at_lem w k + 4)) 0 ≤ d (first# w k) (row# w (start# w k + suc i))
unfolding wrong_inner
inner_low d w k i u false e v = omega arith
inner_low d w k i u true e v =
    let f : ℕ → ℕ = λ p. d (first# w k) (row# w p) in
    let a : inner# w k ≡ lowest (map f (rest (run# w k))) =
    eqb-true (inner# w k) (lowest (map f (rest (run# w k)))) (not-false (eqb (inner# w k) (lowest (map f (rest (run# w k)))))
    (and_second (eqb (edition# w) 2) (not (eqb (inner# w k) (lowest (map f (rest (run# w k)))))) v e)) in
    let b : inner# w k ≡ at w (node_at_lem w k + 4) = ap (λ (b : Bool). cond b (at w (node_at_lem w k + 4)) 0) e in
    let c : lowest (map f (rest (run# w k))) ≤ f (start# w k + suc i) = go (count# w k) u in
    omega (arith, a, b, c)
  where
    go : (n : ℕ) → suc i < n → lowest (map (λ p. d (first# w k) (row# w p)) (rest (range (start# w k) n))) ≤ d (first# w k) (row# w (start# w k + suc i))
    go zero u = absurd (not-suc-le-zero u)
    go (suc n) u =
        let f : ℕ → ℕ = λ p. d (first# w k) (row# w p) in
        rw (add-suc (start# w k) i, ← suc-add (start# w k) i)
        (every-range (λ p. lowest (map f (range (suc (start# w k)) n)) ≤ f p) (suc (start# w k)) n i
        (every-unmap (λ v. lowest (map f (range (suc (start# w k)) n)) ≤ v) f (range (suc (start# w k)) n) (lowest_le (map f (range (suc (start# w k)) n))))
        (omega arith))

-- WITH NO FAULT, DISTANCES, RADII AND CENTRES ARE RIGHT
pub fits : (d : ℕ → ℕ → ℕ) (w : List ℕ) → NoFaults d w → Fits d w
unfolding wrong_dist wrong_radius strays
fits d w O =
    record {
      dists = λ k i h e u v.
          let p : ℕ = start# w k + i in
          let a = every-at (λ k. (not (inner w k) && in_run w p k && not (eqb (dist# w p) (d (first# w k) (row# w p)))) ≡ false) (nodes# w) k
          (any_false (λ k. not (inner w k) && in_run w p k && not (eqb (dist# w p) (d (first# w k) (row# w p)))) (range 0 (nodes# w))
          (every-at (λ p. wrong_dist d w p ≡ false) (n# w) p O.dists v)) h in
          sym (eqb-true (dist# w p) (d (first# w k) (row# w p)) (not-false (eqb (dist# w p) (d (first# w k) (row# w p)))
          (and_second (not (inner w k) && in_run w p k) (not (eqb (dist# w p) (d (first# w k) (row# w p)))) a
          (ap₂ (λ s t. s && t) (ap not e) (in_run_lem w p k (omega arith) (omega arith))))));
      radii = λ k i h u.
          let f : ℕ → ℕ = λ p. d (first# w k) (row# w p) in
          let a = eqb-true (radius# w k) (greatest (map f (run# w k))) (not-false (eqb (radius# w k) (greatest (map f (run# w k))))
          (or_first (wrong_radius d w k) (wrong_inner d w k) (every-at (λ k. (wrong_radius d w k || wrong_inner d w k) ≡ false) (nodes# w) k O.radii h))) in
          let b = every-range (λ p. f p ≤ greatest (map f (run# w k))) (start# w k) (count# w k) i
          (every-unmap (λ v. v ≤ greatest (map f (run# w k))) f (run# w k) (greatest_le (map f (run# w k)))) u in
          omega arith;
      inners = λ k i h u.
          let v = or_second (wrong_radius d w k) (wrong_inner d w k) (every-at (λ k. (wrong_radius d w k || wrong_inner d w k) ≡ false) (nodes# w) k O.radii h) in
          inner_low d w k i u (eqb (edition# w) 2) refl v;
      near = λ k a b i h e qa qb u lo hi.
          let j : ℕ = child# w k + a in
          let p : ℕ = start# w j + i in
          let g : ℕ → Bool = λ i. ltb (d (first# w i) (row# w p)) (d (first# w j) (row# w p)) in
          let s : strays d w k p ≡ false =
          subst (λ z. strays d w k z ≡ false) (omega arith) (every-range (λ p. strays d w k p ≡ false) (start# w k) (count# w k) (p - start# w k)
          (every-at (λ k. Every (λ p. strays d w k p ≡ false) (run# w k)) (nodes# w) k O.near h) (omega arith)) in
          let ks : kids w k ≡ range (child# w k) (m# w) = ap (λ b. cond b (range (child# w k) (m# w)) []) e in
          let t : (in_run w p j && any g (kids w k)) ≡ false =
          every-range (λ j. (in_run w p j && any (λ i. ltb (d (first# w i) (row# w p)) (d (first# w j) (row# w p))) (kids w k)) ≡ false)
          (child# w k) (m# w) a
          (subst (λ l. Every (λ j. (in_run w p j && any (λ i. ltb (d (first# w i) (row# w p)) (d (first# w j) (row# w p))) (kids w k)) ≡ false) l) ks
          (any_false (λ j. in_run w p j && any (λ i. ltb (d (first# w i) (row# w p)) (d (first# w j) (row# w p))) (kids w k)) (kids w k) s)) qa in
          let v : any g (kids w k) ≡ false = and_second (in_run w p j) (any g (kids w k)) t (in_run_lem w p j (omega arith) (omega arith)) in
          ltb-false (d (first# w (child# w k + b)) (row# w p)) (d (first# w j) (row# w p))
          (every-range (λ i. g i ≡ false) (child# w k) (m# w) b (subst (λ l. Every (λ i. g i ≡ false) l) ks (any_false g (kids w k) v)) qb);
    }
