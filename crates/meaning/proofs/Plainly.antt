-- The words' test and the shape's test, read in 01's words, both ways. Assumes nothing.
use Prim.Native.Nat.{◌*◌, ◌+◌, ◌-◌, ◌<◌, ◌≤◌, suc, zero, ℕ}
use Rattle.laws.proofs.Every.{all_of}
use Rattle.laws.proofs.Ranges.{at_every}
use Rattle.laws.proofs.Tests.{and_l, and_of, and_r, eq_test, holds, is_true}
use Rattle.laws.specs.Lists.{all, range}
use Rattle.limits.proofs.Ranges.{both-within, within_both}
use Rattle.limits.specs.Limits.{circles_ok_lem, columns_ok_lem, edition_ok_lem, max_columns, max_depth, max_distance, max_rows, share_ok_lem}
use Rattle.tree.proofs.Alike.{born-some}
use Rattle.meaning.proofs.Circles.{circles-plain, circles-test}
use Rattle.meaning.proofs.Depths.{Born, born-numbered, depth-level, numbered-born, numbered-child, stood}
use Rattle.meaning.specs.Conditions.{Numbered, Possible, Ruled, Shaped, Tiled}
use Rattle.words.proofs.Headers.{good-header, good-whole}
use Rattle.words.proofs.InShape.{header_possible, whole}
use Rattle.words.proofs.Levels.{inner-is, level-le}
use Rattle.words.proofs.Nodes.{closed, node_at, node_ok, root_ok, root_some}
use Rattle.words.proofs.Positions.{position-is}
use Rattle.words.proofs.Tiles.{tile-head, tile-none, tile-tail}
use Rattle.words.specs.Shape.{born, level, node_ok_lem, position_ok, root_fits_lem, root_ok_lem, shape_ok_lem, tile, tree_fits_lem}
use Rattle.words.specs.Words.{nodes#, c#, card_ok_lem, child#, circles#, count#, dist#, edition#, inner#, kind#, l#, m#, n#, nodes_ok_lem}
use Rattle.words.specs.Words.{radius#, row#, start#, whole_ok, words_of_lem}
use borrow.Author.Tests.{eq-eqb, le-leb, leb-false, leb-true, lt-leb}
use lib.Dec.{T, eqb, eqb→eq, leb, le→leb, ltb, lt→ltb}
use lib.ListN.{length}
use mathlib.Core.Bool.{Bool, ◌&&◌, ◌||◌, cond, false, or-true, true}
use mathlib.Core.List.{List}
use mathlib.Core.Logic.{by_cases}
use mathlib.Core.Path.{◌∙◌, ◌≡◌, ap, refl, subst, sym}
use native.Mathlib.Decide.{dec_lt}
use native.Mathlib.Omega.{arith}

-- ---- the words
-- a possible node count
nodes-plain : (n N : ℕ) → T (nodes_ok_lem n N) → (1 ≤ n → (1 ≤ N) × (N ≤ 2 * n - 1)) × (n ≡ 0 → N ≡ 0)
nodes-plain zero N t = (λ h. absurd (omega arith), λ h. eqb→eq N 0 t)
nodes-plain (suc n) N t = (λ h. within_both 1 (2 * suc n - 1) N (is_true (nodes_ok_lem (suc n) N) t), λ h. absurd (omega arith))

-- and the other way
nodes_test : (n N : ℕ) → (1 ≤ n → (1 ≤ N) × (N ≤ 2 * n - 1)) → (n ≡ 0 → N ≡ 0) → nodes_ok_lem n N ≡ true
nodes_test zero N f g = eq-eqb N 0 (g refl)
nodes_test (suc n) N f g = let p = f (omega arith) in both-within 1 (2 * suc n - 1) N p.0 p.1

-- the last three parts of a possible header: the node count, the distance kind and the circles
header_ends : (w : List ℕ) → card_ok_lem w ≡ true → T (nodes_ok_lem (n# w) (nodes# w)) × (kind# w ≡ 1) × T (circles_ok_lem (c# w) (circles# w))
unfolding card_ok_lem
header_ends w e =
    let a = edition_ok_lem (edition# w) && leb (n# w) max_rows && columns_ok_lem (c# w) && share_ok_lem (m# w) (l# w) in
    let k = nodes_ok_lem (n# w) (nodes# w) in
    let x = eqb (kind# w) 1 in
    let y = circles_ok_lem (c# w) (circles# w) in
    let t = holds (a && k && x && y) e in
    let u = and_l (a && k && x) y t in
    (and_r a k (and_l (a && k) x u), eqb→eq (kind# w) 1 (and_r (a && k) x u), and_r (a && k && x) y t)

-- WORDS THAT PASS ARE POSSIBLE
pub words-plain : (w : List ℕ) → whole_ok w ≡ true → Possible w
words-plain w e =
    let W = whole w e in
    let h = header_ends w (header_possible w e) in
    let k = nodes-plain (n# w) (nodes# w) h.0 in
    record {
      header = omega (arith, W.words);
      whole = W.words;
      edition = W.edition;
      rows = W.rows;
      columns = W.columns;
      fan = W.fan;
      leaf = W.leaf;
      nodes = k.0;
      none = k.1;
      kind = h.1;
      circles = λ j q. circles-plain (circles# w) (c# w) h.2 j (omega (arith, q));
    }

-- AND POSSIBLE WORDS PASS
pub plain-words : (w : List ℕ) → Possible w → whole_ok w ≡ true
plain-words w P =
    let a = both-within 1 2 (edition# w) P.edition.0 P.edition.1 in
    let c = both-within 1 max_columns (c# w) P.columns.0 P.columns.1 in
    let f = both-within 2 64 (m# w) P.fan.0 P.fan.1 in
    let s : share_ok_lem (m# w) (l# w) ≡ true = rw f (both-within (m# w) 1_024 (l# w) P.leaf.0 P.leaf.1) in
    let k = nodes_test (n# w) (nodes# w) P.nodes P.none in
    let h = sym (good-header w a P.rows c s k P.kind) ∙ circles-test (circles# w) (c# w) (λ j q. P.circles j (omega (arith, q))) in
    sym (good-whole w P.header h) ∙ le-leb (words_of_lem w) (length w) P.whole

-- ---- the shape
module _ (w : List ℕ) where
  -- runs that tile
  tile-plain : (j k s e : ℕ) → T (tile w j k s e) → Tiled w j k s e
  tile-plain j zero s e t = tile-none w j s e t
  tile-plain j (suc k) s e t = (tile-head w j k s e t, tile-plain (suc j) k (s + count# w j) e (tile-tail w j k s e t))

  -- and the other way
  plain-tile : (j k s e : ℕ) → Tiled w j k s e → T (tile w j k s e)
  unfolding tile
  plain-tile j zero s e t = eq_test s e t
  plain-tile j (suc k) s e t =
      and_of (eqb (start# w j) s) (tile w (suc j) k (s + count# w j) e) (eq_test (start# w j) s t.0)
      (plain-tile (suc j) k (s + count# w j) e t.1)

  -- node k's children's runs tile its own
  abbrev tiles : ℕ → Bool
  tiles k = tile w (child# w k) (m# w) (start# w k) (start# w k + count# w k)

  -- the part of a node's test that goes by cases
  abbrev by_case : ℕ → Bool → Bool → Bool
  by_case k few deep = cond (few || deep) (eqb (child# w k) 0) (eqb (child# w k) (born w k) && tiles k)

  -- its other part
  abbrev sizes : ℕ → Bool
  sizes k = leb 1 (count# w k) && leb (radius# w k) max_distance && leb (inner# w k) max_distance

  -- the test of node k, by these
  node-test : (k : ℕ) → node_ok_lem w k ≡ (sizes k && by_case k (leb (count# w k) (l# w)) (leb (level w max_depth) k))
  unfolding node_ok_lem
  node-test k = refl

  -- A NODE OF AN INDEX IN SHAPE IS BY THE RULES
  ruled : T (tree_fits_lem w) → Born w (nodes# w) → (k : ℕ) → k < nodes# w → Ruled w k
  ruled t f k h =
      let v = node_at w t k h in
      let S = stood w t k h in
      let D = depth-level w f S.stands in
      let few : Bool = leb (count# w k) (l# w) in
      let deep : Bool = leb (level w max_depth) k in
      let c : T (by_case k few deep) = and_r (sizes k) (by_case k few deep) (subst T (node-test k) (node_ok w t k h)) in
      record {
        depth = S.depth;
        stands = S.stands;
        some = v.some;
        far = v.small;
        near = v.smaller;
        few = λ q. eqb→eq (child# w k) 0 (subst (λ (b : Bool). T (by_case k b deep)) (le-leb (count# w k) (l# w) q) c);
        deepest = λ q.
            let e : deep ≡ true = le-leb (level w max_depth) k (omega (arith, D.0, level-le w max_depth S.depth (omega (arith, q)))) in
            eqb→eq (child# w k) 0 (subst (λ (b : Bool). T (cond b (eqb (child# w k) 0) (eqb (child# w k) (born w k) && tiles k)))
            (ap (λ (b : Bool). few || b) e ∙ or-true few) c);
        other = λ q r.
            let a : few ≡ false = lt-leb (count# w k) (l# w) q in
            let b : deep ≡ false = lt-leb (level w max_depth) k (omega (arith, D.1, level-le w (suc S.depth) max_depth r)) in
            let u : T (eqb (child# w k) (born w k) && tiles k) =
            subst (λ (z : Bool). T (by_case k false z)) b (subst (λ (z : Bool). T (by_case k z deep)) a c) in
            let e = eqb→eq (child# w k) (born w k) (and_l (eqb (child# w k) (born w k)) (tiles k) u) in (
              omega (arith, e, born-some w k),
              tile-plain (child# w k) (m# w) (start# w k) (start# w k + count# w k) (and_r (eqb (child# w k) (born w k)) (tiles k) u),
            );
      }

  -- and one that is passes its test
  plain-node : Born w (nodes# w) → (k : ℕ) → k < nodes# w → Ruled w k → T (node_ok_lem w k)
  plain-node f k h R =
      let D = depth-level w f R.stands in
      let few : Bool = leb (count# w k) (l# w) in
      let deep : Bool = leb (level w max_depth) k in
      subst T (sym (node-test k)) (and_of (sizes k) (by_case k few deep)
      (and_of (leb 1 (count# w k) && leb (radius# w k) max_distance) (leb (inner# w k) max_distance)
      (and_of (leb 1 (count# w k)) (leb (radius# w k) max_distance) (le→leb 1 (count# w k) R.some) (le→leb (radius# w k) max_distance R.far))
      (le→leb (inner# w k) max_distance R.near)) (go D few deep refl refl))
    where
      go : (level w R.depth ≤ k) × (k < level w (suc R.depth)) → (few deep : Bool) → leb (count# w k) (l# w) ≡ few
          → leb (level w max_depth) k ≡ deep → T (by_case k few deep)
      go D true deep p q = eq_test (child# w k) 0 (R.few (leb-true (count# w k) (l# w) p))
      go D false true p q =
          eq_test (child# w k) 0 (by_cases (dec_lt R.depth max_depth)
          (λ l. absurd (omega (arith, D.1, level-le w (suc R.depth) max_depth l, leb-true (level w max_depth) k q)))
          (λ l. R.deepest (omega arith)))
      go D false false p q =
          by_cases (dec_lt R.depth max_depth)
          (λ l.
          let o = R.other (leb-false (count# w k) (l# w) p) l in
          and_of (eqb (child# w k) (born w k)) (tiles k) (eq_test (child# w k) (born w k) (f k h o.0))
          (plain-tile (child# w k) (m# w) (start# w k) (start# w k + count# w k) o.1))
          (λ l. absurd (omega (arith, D.0, level-le w max_depth R.depth (omega arith), leb-false (level w max_depth) k q)))

  -- THE SHAPE'S TEST PASSES: THE INDEX IS IN SHAPE
  pub shape-plain : shape_ok_lem w ≡ true → Shaped w
  unfolding shape_ok_lem
  shape-plain e =
      let ps = all (position_ok w) (range 0 (n# w)) in
      let q : T (tree_fits_lem w && ps) = holds (tree_fits_lem w && ps) e in
      let t : T (tree_fits_lem w) = and_l (tree_fits_lem w) ps q in
      let f : Born w (nodes# w) = λ j h s. (node_at w t j h).next (inner-is w j (λ z. omega (arith, s, z))) in
      let a = eqb (start# w 0) 0 in
      let b = eqb (count# w 0) (n# w) in
      record {
        root = λ s.
            let r : T (a && b) = and_l (root_fits_lem w) (eqb (born w (nodes# w)) (nodes# w)) (subst T (root_some w (nodes# w) s) (root_ok w t)) in
            (eqb→eq (start# w 0) 0 (and_l a b r), eqb→eq (count# w 0) (n# w) (and_r a b r));
        numbered = λ s. subst (λ (b : ℕ). Numbered w (nodes# w) b) (closed w t s) (born-numbered w (nodes# w) f);
        node = ruled t f;
        row = λ p h. (position-is w (and_r (tree_fits_lem w) ps q) p h).0;
        distance = λ p h. (position-is w (and_r (tree_fits_lem w) ps q) p h).1;
      }

  -- AND AN INDEX IN SHAPE PASSES
  pub plain-shape : Shaped w → shape_ok_lem w ≡ true
  unfolding shape_ok_lem
  plain-shape S =
      let root : T (root_ok_lem w (nodes# w)) =
      by_cases (dec_lt 0 (nodes# w))
      (λ s.
      let r = S.root s in
      subst T (sym (root_some w (nodes# w) s)) (and_of (root_fits_lem w) (eqb (born w (nodes# w)) (nodes# w))
      (and_of (eqb (start# w 0) 0) (eqb (count# w 0) (n# w)) (eq_test (start# w 0) 0 r.0) (eq_test (count# w 0) (n# w) r.1))
      (eq_test (born w (nodes# w)) (nodes# w) (sym (numbered-born w (S.numbered s))))))
      (λ s.
      let z : 0 ≡ nodes# w = omega arith in
      subst (λ (N : ℕ). T (root_ok_lem w N)) z tt) in
      let nodes : T (all (node_ok_lem w) (range 0 (nodes# w))) =
      all_of (node_ok_lem w) (range 0 (nodes# w)) (at_every (λ k. T (node_ok_lem w k)) (nodes# w)
      (λ k h. plain-node (numbered-child w (S.numbered (omega arith))) k h (S.node k h))) in
      let places : T (all (position_ok w) (range 0 (n# w))) =
      all_of (position_ok w) (range 0 (n# w)) (at_every (λ p. T (position_ok w p)) (n# w)
      (λ p h. and_of (ltb (row# w p) (n# w)) (leb (dist# w p) max_distance)
      (lt→ltb (row# w p) (n# w) (S.row p h)) (le→leb (dist# w p) max_distance (S.distance p h)))) in
      is_true (tree_fits_lem w && all (position_ok w) (range 0 (n# w))) (and_of (tree_fits_lem w) (all (position_ok w) (range 0 (n# w)))
      (and_of (root_ok_lem w (nodes# w)) (all (node_ok_lem w) (range 0 (nodes# w))) root nodes) places)
