-- Two indexes whose nodes and positions read alike, whatever words stand between them: one is in shape as the other is, and its nodes are
-- as right. Assumes nothing.
use Prim.Native.Nat.{◌+◌, ◌-◌, ◌<◌, ◌≤◌, suc, zero, ℕ}
use Rattle.laws.proofs.Every.{all_of, every_rest, greatest_le, lowest_under}
use Rattle.laws.proofs.Maps.{map_same}
use Rattle.laws.proofs.Ranges.{at_every, every-at, range-every}
use Rattle.laws.proofs.Tests.{and_l, and_of, and_r, and_second, holds, is_true, or_parts}
use Rattle.laws.specs.Every.{Every}
use Rattle.laws.specs.Lists.{all, greatest, lowest, range, rest, times}
use Rattle.limits.specs.Limits.{max_depth, max_distance}
use Rattle.tree.proofs.Accepted.{once-of, shape_of}
use Rattle.tree.proofs.Faultless.{no-fault}
use Rattle.tree.proofs.Fitting.{Fits}
use Rattle.tree.proofs.NoFaults.{NoFaults, fits, no_faults}
use Rattle.tree.proofs.Right.{NearAll, Right, rest_map}
use Rattle.tree.proofs.Rows.{once_to}
use Rattle.tree.proofs.Shaped.{kept_le}
use Rattle.tree.specs.Check.{Accepted, faults, nearest#, wrong_inner, wrong_radius}
use Rattle.words.proofs.Levels.{born-le, inner-is}
use Rattle.words.proofs.Nodes.{closed, node_ok, root_ok}
use Rattle.words.specs.InShape.{InShape}
use Rattle.words.specs.Shape.{born, inner, level, node_ok_lem, position_ok, root_ok_lem, shape_ok_lem, tile, tree_fits_lem}
use Rattle.words.specs.Words.{nodes#, child#, count#, dist#, edition#, first#, inner#, kept, l#, m#, n#, radius#, row#, run#, start#, whole_ok}
use borrow.Author.Tests.{eq-eqb, eqb-true, le-leb, not-false}
use lib.Dec.{T, eqb, leb, le→leb, ltb, lt→ltb}
use mathlib.Core.Bool.{Bool, ◌&&◌, ◌||◌, cond, false, not, true}
use mathlib.Core.List.{List, map}
use mathlib.Core.Path.{◌∙◌, ◌≡◌, ap, ap₂, refl, subst, sym}
use native.Mathlib.Omega.{arith}

-- v reads as w does
pub record Alike (w v : List ℕ) : Type 0 where
  pub rows : n# v ≡ n# w
  pub fan : m# v ≡ m# w
  pub leaf : l# v ≡ l# w
  pub nodes : nodes# v ≡ nodes# w
  pub start : (k : ℕ) → k < nodes# w → start# v k ≡ start# w k
  pub count : (k : ℕ) → k < nodes# w → count# v k ≡ count# w k
  pub child : (k : ℕ) → k < nodes# w → child# v k ≡ child# w k
  pub radius : (k : ℕ) → k < nodes# w → radius# v k ≡ radius# w k
  pub row : (p : ℕ) → p < n# w → row# v p ≡ row# w p
  pub dist : (p : ℕ) → p < n# w → dist# v p ≡ dist# w p

-- a node's test where it goes by cases
abbrev by_case : Bool → Bool → Bool → Bool → Bool
by_case few none next tiles = cond few none (next && tiles)

-- children's numbers start at 1
pub born-some : (w : List ℕ) (k : ℕ) → 1 ≤ born w k
unfolding born
born-some w zero = omega arith
born-some w (suc k) = omega (arith, born-some w k)

-- ---- the shape
module _ {w v : List ℕ} (A : Alike w v) where
  -- inner nodes are the same
  pub inner-same : (k : ℕ) → k < nodes# w → inner v k ≡ inner w k
  inner-same k h = ap (λ c. not (eqb c 0)) (A.child k h)

  -- so are the numbers that children get
  born-same : (k : ℕ) → k ≤ nodes# w → born v k ≡ born w k
  unfolding born
  born-same zero h = refl
  born-same (suc k) h =
      ap₂ (λ (a b : ℕ). a + b) (born-same k (omega arith)) (ap₂ (λ (b : Bool) (m : ℕ). cond b m 0) (inner-same k h) A.fan)

  -- runs that tile
  tile-alike : (j k s e : ℕ) → j + k ≤ nodes# w → tile v j k s e ≡ tile w j k s e
  unfolding tile
  tile-alike j zero s e h = refl
  tile-alike j (suc k) s e h =
      ap₂ (λ (a b : Bool). a && b) (ap (λ i. eqb i s) (A.start j (omega arith)))
      (ap (λ c. tile v (suc j) k (s + c) e) (A.count j (omega arith)) ∙ tile-alike (suc j) k (s + count# w j) e (omega arith))

  module _ (t : T (tree_fits_lem w)) where
    -- no level starts behind the last node
    level-low : 1 ≤ nodes# w → (d : ℕ) → level w d ≤ nodes# w
    unfolding level
    level-low s zero = omega arith
    level-low s (suc d) = omega (arith, born-le w (level w d) (nodes# w) (level-low s d), closed w t s)

    -- levels start at the same numbers
    level-same : 1 ≤ nodes# w → (d : ℕ) → level v d ≡ level w d
    unfolding level
    level-same s zero = refl
    level-same s (suc d) = ap (born v) (level-same s d) ∙ born-same (level w d) (level-low s d)

    -- a node passes its test in v where its inner reach is in range
    node_alike : InShape w → (k : ℕ) → k < nodes# w → inner# v k ≤ max_distance → T (node_ok_lem v k)
    unfolding node_ok_lem
    node_alike S k h r =
        let a = leb 1 (count# w k) in
        let b = leb (radius# w k) max_distance in
        let i = leb (inner# w k) max_distance in
        let few = leb (count# w k) (l# w) || leb (level w max_depth) k in
        let zero? = eqb (child# w k) 0 in
        let next? = eqb (child# w k) (born w k) in
        let tiles : List ℕ → Bool = λ l. tile l (child# w k) (m# w) (start# w k) (start# w k + count# w k) in
        let ok : T (a && b && i && by_case few zero? next? (tiles w)) = node_ok w t k h in
        let ab = and_l (a && b) i (and_l (a && b && i) (by_case few zero? next? (tiles w)) ok) in
        let u = and_r (a && b && i) (by_case few zero? next? (tiles w)) ok in
        rw (A.count k h, A.radius k h, A.child k h, A.start k h, A.fan, A.leaf, born-same k (omega arith), level-same (omega arith) max_depth)
        (and_of (a && b && leb (inner# v k) max_distance) (by_case few zero? next? (tiles v))
        (and_of (a && b) (leb (inner# v k) max_distance) ab (subst T (sym (le-leb (inner# v k) max_distance r)) tt))
        (go few next? refl u))
      where
        go : (few next? : Bool) → eqb (child# w k) (born w k) ≡ next?
            → T (by_case few (eqb (child# w k) 0) next? (tile w (child# w k) (m# w) (start# w k) (start# w k + count# w k)))
            → T (by_case few (eqb (child# w k) 0) next? (tile v (child# w k) (m# w) (start# w k) (start# w k + count# w k)))
        go true next? e u = u
        go false false e u = u
        go false true e u =
            let c : child# w k ≡ born w k = eqb-true (child# w k) (born w k) e in
            let in_is : inner w k ≡ true = inner-is w k (λ z. omega (arith, born-some w k, c)) in
            rw (tile-alike (child# w k) (m# w) (start# w k) (start# w k + count# w k) ((S.node k h).kids in_is).inside) u

  -- THE SHAPE IS RIGHT IN v AS IN w, where the inner reaches are in range
  pub shape-alike : InShape w → shape_ok_lem w ≡ true → ((k : ℕ) → k < nodes# w → inner# v k ≤ max_distance) → shape_ok_lem v ≡ true
  unfolding shape_ok_lem
  shape-alike S e r =
      let ps = all (position_ok w) (range 0 (n# w)) in
      let q : T (tree_fits_lem w && ps) = holds (tree_fits_lem w && ps) e in
      let t = and_l (tree_fits_lem w) ps q in
      let root : T (root_ok_lem v (nodes# v)) = rw A.nodes (go (nodes# w) refl (root_ok w t)) in
      let nodes : T (all (node_ok_lem v) (range 0 (nodes# v))) =
      rw A.nodes (all_of (node_ok_lem v) (range 0 (nodes# w)) (at_every (λ k. T (node_ok_lem v k)) (nodes# w) (λ k h. node_alike t S k h (r k h)))) in
      let places : T (all (position_ok v) (range 0 (n# v))) =
      rw A.rows (all_of (position_ok v) (range 0 (n# w)) (at_every (λ p. T (position_ok v p)) (n# w)
      (λ p h. rw (A.row p h, A.dist p h, A.rows) (and_of (ltb (row# w p) (n# w)) (leb (dist# w p) max_distance)
      (lt→ltb (row# w p) (n# w) (S.place p h).row) (le→leb (dist# w p) max_distance (S.place p h).near))))) in
      is_true (root_ok_lem v (nodes# v) && all (node_ok_lem v) (range 0 (nodes# v)) && all (position_ok v) (range 0 (n# v)))
      (and_of (root_ok_lem v (nodes# v) && all (node_ok_lem v) (range 0 (nodes# v))) (all (position_ok v) (range 0 (n# v)))
      (and_of (root_ok_lem v (nodes# v)) (all (node_ok_lem v) (range 0 (nodes# v))) root nodes) places)
    where
      go : (N : ℕ) → nodes# w ≡ N → T (root_ok_lem w N) → T (root_ok_lem v N)
      go zero q u = tt
      go (suc N) q u = rw (A.start 0 (omega arith), A.count 0 (omega arith), A.rows, born-same (suc N) (omega arith)) u

  -- ---- the nodes, over the distance d between rows
  module _ (S : InShape w) (d : ℕ → ℕ → ℕ) where
    -- a node's run
    pub run-same : (k : ℕ) → k < nodes# w → run# v k ≡ run# w k
    run-same k h = ap₂ range (A.start k h) (A.count k h)

    -- the rows of its run
    row_in : (k i : ℕ) → k < nodes# w → i < count# w k → row# v (start# w k + i) ≡ row# w (start# w k + i)
    row_in k i h q = A.row (start# w k + i) (omega (arith, (S.node k h).run))

    -- its first
    pub first-same : (k : ℕ) → k < nodes# w → first# v k ≡ first# w k
    first-same k h = ap (row# v) (A.start k h) ∙ A.row (start# w k) (omega (arith, (S.node k h).run, (S.node k h).some))

    -- the distances of its rows from its first
    pub distances-same : (k : ℕ) → k < nodes# w
        → map (λ p. d (first# v k) (row# v p)) (run# v k) ≡ map (λ p. d (first# w k) (row# w p)) (run# w k)
    distances-same k h =
        ap (map (λ p. d (first# v k) (row# v p))) (run-same k h)
        ∙ map_same (λ p. d (first# v k) (row# v p)) (λ p. d (first# w k) (row# w p)) (run# w k)
        (range-every (λ p. d (first# v k) (row# v p) ≡ d (first# w k) (row# w p)) (start# w k) (count# w k)
        (λ i q. ap₂ d (first-same k h) (row_in k i h q)))

    -- the nearest member other than the first is as near
    pub nearest-same : (k : ℕ) → k < nodes# w → nearest# d v k ≡ nearest# d w k
    nearest-same k h =
        ap lowest (sym (rest_map (λ p. d (first# v k) (row# v p)) (run# v k)) ∙ ap rest (distances-same k h)
        ∙ rest_map (λ p. d (first# w k) (row# w p)) (run# w k))

    -- a node is right in v where its words are right in w
    right-alike : Fits d w → (k : ℕ) → k < nodes# w → radius# w k ≡ greatest (map (λ p. d (first# w k) (row# w p)) (run# w k))
        → inner# v k ≡ kept (edition# v) (nearest# d w k) → Right d v k
    right-alike F k h r q =
        record {
          radius = A.radius k h ∙ r ∙ ap greatest (sym (distances-same k h));
          inner-reach = q ∙ ap (kept (edition# v)) (sym (nearest-same k h));
          dists = λ e. subst (Every (λ p. dist# v p ≡ d (first# v k) (row# v p))) (sym (run-same k h))
              (range-every (λ p. dist# v p ≡ d (first# v k) (row# v p)) (start# w k) (count# w k)
              (λ i u. let p : start# w k + i < n# w = omega (arith, (S.node k h).run) in
              A.dist (start# w k + i) p ∙ sym (F.dists k i h (sym (inner-same k h) ∙ e) u p)
              ∙ sym (ap₂ d (first-same k h) (row_in k i h u))));
          near = λ e. near-alike (sym (inner-same k h) ∙ e);
        }
      where
        near-alike : inner w k ≡ true → NearAll d v (child# v k) (m# v)
        near-alike e =
            let K = (S.node k h).kids e in
            rw (A.child k h, A.fan)
            (range-every (λ j. Every (λ p. Every (λ i. d (first# v j) (row# v p) ≤ d (first# v i) (row# v p)) (range (child# w k) (m# w))) (run# v j))
            (child# w k) (m# w)
            (λ a qa.
            let j : ℕ = child# w k + a in
            let hj : j < nodes# w = omega (arith, K.inside) in
            subst (Every (λ p. Every (λ i. d (first# v j) (row# v p) ≤ d (first# v i) (row# v p)) (range (child# w k) (m# w)))) (sym (run-same j hj))
            (range-every (λ p. Every (λ i. d (first# v j) (row# v p) ≤ d (first# v i) (row# v p)) (range (child# w k) (m# w))) (start# w j) (count# w j)
            (λ i qi. range-every (λ z. d (first# v j) (row# v (start# w j + i)) ≤ d (first# v z) (row# v (start# w j + i))) (child# w k) (m# w)
            (λ b qb.
            let z : ℕ = child# w k + b in
            let hz : z < nodes# w = omega (arith, K.inside) in
            let x = ap₂ d (first-same j hj) (row_in j i hj qi) in
            let y = ap₂ d (first-same z hz) (row_in j i hj qi) in
            let f = F.near k a b i h e qa qb qi (omega (arith, (K.part a qa).0)) (omega (arith, (K.part a qa).1)) in
            omega (arith, x, y, f))))))

-- ---- an accepted index's words
module _ (d : ℕ → ℕ → ℕ) (w : List ℕ) (O : NoFaults d w) where
  -- neither the radius nor the inner reach is wrong
  neither : (k : ℕ) → k < nodes# w → (wrong_radius d w k ≡ false) × (wrong_inner d w k ≡ false)
  neither k h =
      or_parts (wrong_radius d w k) (wrong_inner d w k) (every-at (λ k. (wrong_radius d w k || wrong_inner d w k) ≡ false) (nodes# w) k O.radii h)

  -- its radii are exact
  pub radius-is : (k : ℕ) → k < nodes# w → radius# w k ≡ greatest (map (λ p. d (first# w k) (row# w p)) (run# w k))
  unfolding wrong_radius
  radius-is k h =
      let g : ℕ = greatest (map (λ p. d (first# w k) (row# w p)) (run# w k)) in
      eqb-true (radius# w k) g (not-false (eqb (radius# w k) g) (neither k h).0)

  -- in edition 2 its inner reaches are exact
  pub inner-is-nearest : edition# w ≡ 2 → (k : ℕ) → k < nodes# w → inner# w k ≡ nearest# d w k
  unfolding wrong_inner
  inner-is-nearest e k h =
      eqb-true (inner# w k) (nearest# d w k) (not-false (eqb (inner# w k) (nearest# d w k))
      (and_second (eqb (edition# w) 2) (not (eqb (inner# w k) (nearest# d w k))) (neither k h).1 (eq-eqb (edition# w) 2 e)))

  -- NO MEMBER IS NEARER THAN ONE IS FAR: the nearest member but the first is at most at the radius
  pub nearest-under : (k : ℕ) → k < nodes# w → nearest# d w k ≤ radius# w k
  nearest-under k h =
      let f : ℕ → ℕ = λ p. d (first# w k) (row# w p) in
      let g : ℕ = greatest (map f (run# w k)) in
      let a : lowest (rest (map f (run# w k))) ≤ g =
      lowest_under g (rest (map f (run# w k))) (every_rest (λ x. x ≤ g) (map f (run# w k)) (greatest_le (map f (run# w k)))) in
      omega (arith, a, ap lowest (rest_map f (run# w k)), radius-is k h)

-- AN INDEX THAT READS AS AN ACCEPTED ONE, WITH THE INNER REACHES THAT ITS EDITION KEEPS, IS ACCEPTED
pub alike_accepted : (d : ℕ → ℕ → ℕ) {w v : List ℕ} → Alike w v → Accepted d w → whole_ok v ≡ true
    → ((k : ℕ) → k < nodes# w → inner# v k ≡ kept (edition# v) (nearest# d w k)) → Accepted d v
alike_accepted d {w} {v} A C words r =
    let S = shape_of d w C in
    let O = no_faults d w C.sound in
    let F = fits d w O in
    let rows : map (row# v) (range 0 (n# v)) ≡ map (row# w) (range 0 (n# w)) =
    ap (λ n. map (row# v) (range 0 n)) A.rows
    ∙ map_same (row# v) (row# w) (range 0 (n# w)) (at_every (λ p. row# v p ≡ row# w p) (n# w) A.row) in
    record {
      words = words;
      shape = shape-alike A S C.shape
          (λ k h. omega (arith, r k h, kept_le (edition# v) (nearest# d w k), nearest-under d w O k h, (S.node k h).near));
      sound = no-fault d v
          (λ i. subst (λ l. times i l ≤ 1) (sym rows) (once_to w (once-of d w C) (n# w) (omega arith) i))
          (subst (λ n. Every (Right d v) (range 0 n)) (sym A.nodes)
          (at_every (Right d v) (nodes# w) (λ k h. right-alike A S d F k h (radius-is d w O k h) (r k h))));
    }
