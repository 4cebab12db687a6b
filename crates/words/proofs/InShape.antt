-- The words and the shape, read: what the two tests say, as the records that the layers above need. Assumes nothing.
use Prim.Native.Nat.{◌*◌, ◌+◌, ◌-◌, ◌<◌, ◌≤◌, suc, zero, ℕ}
use Rattle.laws.proofs.Tests.{and_l, and_r, holds, is_true}
use Rattle.laws.specs.Lists.{all, range}
use Rattle.limits.proofs.Ranges.{columns_are, shared, within_both}
use Rattle.limits.specs.Limits.{circles_ok_lem, columns_ok_lem, edition_ok_lem, max_depth, max_rows, share_ok_lem}
use Rattle.words.proofs.Headers.{words-whole}
use Rattle.words.proofs.Levels.{born-le}
use Rattle.words.proofs.Nodes.{closed, node_at, not-orphan, room_for, root_ok, root_some}
use Rattle.words.proofs.Positions.{position-is}
use Rattle.words.proofs.Tiles.{tile-first, tile-part}
use Rattle.words.specs.InShape.{InShape, Kids, Left, Node, Place, Whole}
use Rattle.words.specs.Shape.{born, inner, level, position_ok, root_fits_lem, shape_ok_lem, tree_fits_lem}
use Rattle.words.specs.Words.{nodes#, c#, card_ok_lem, child#, circles#, count#, edition#, kind#, l#, m#, n#, nodes_ok_lem, start#, whole_ok, words_of_lem, words_ok_lem}
use lib.Dec.{T, eqb, eqb→eq, leb, leb→le}
use lib.ListN.{length}
use mathlib.Core.Bool.{Bool, ◌&&◌, cond, false, true}
use mathlib.Core.List.{List}
use mathlib.Core.Logic.{by_cases}
use mathlib.Core.Path.{◌≡◌, ap, refl, subst}
use native.Mathlib.Decide.{dec_lt}
use native.Mathlib.Nat.{not-suc-le-zero}
use native.Mathlib.Omega.{arith}

-- ---- the header
-- a possible node count
pub nodes_are : (n N : ℕ) → T (nodes_ok_lem n N) → (N ≤ 2 * n) × (1 ≤ n → 1 ≤ N)
nodes_are zero N t = (omega (arith, eqb→eq N 0 t), λ h. absurd (not-suc-le-zero h))
nodes_are (suc n) N t =
    let q = within_both 1 (2 * suc n - 1) N (is_true (nodes_ok_lem (suc n) N) t) in
    (omega arith, λ h. q.0)

-- WHAT THE WORDS' TEST SAYS
pub whole : (w : List ℕ) → whole_ok w ≡ true → Whole w
unfolding whole_ok card_ok_lem
whole w e =
    let a = edition_ok_lem (edition# w) in
    let b = leb (n# w) max_rows in
    let d = columns_ok_lem (c# w) in
    let s = share_ok_lem (m# w) (l# w) in
    let k = nodes_ok_lem (n# w) (nodes# w) in
    let h = a && b && d && s && k && eqb (kind# w) 1 && circles_ok_lem (c# w) (circles# w) in
    let g = holds (leb 8 (length w) && h && leb (words_of_lem w) (length w)) e in
    let t : T (a && b && d && s && k) =
    and_l (a && b && d && s && k) (eqb (kind# w) 1) (and_l (a && b && d && s && k && eqb (kind# w) 1) (circles_ok_lem (c# w) (circles# w))
    (and_r (leb 8 (length w)) h (and_l (leb 8 (length w) && h) (leb (words_of_lem w) (length w)) g))) in
    let t4 = and_l (a && b && d && s) k t in
    let t3 = and_l (a && b && d) s t4 in
    let share = shared (m# w) (l# w) (is_true s (and_r (a && b && d) s t4)) in
    let nodes = nodes_are (n# w) (nodes# w) (and_r (a && b && d && s) k t) in
    record {
      words = leb→le (words_of_lem w) (length w) (and_r (leb 8 (length w) && h) (leb (words_of_lem w) (length w)) g);
      edition = within_both 1 2 (edition# w) (is_true a (and_l a b (and_l (a && b) d t3)));
      rows = leb→le (n# w) max_rows (and_r a b (and_l (a && b) d t3));
      columns = columns_are (c# w) (is_true d (and_r (a && b) d t3));
      fan = (share.two, share.most);
      leaf = (share.leafy, share.leaf);
      nodes = nodes.0;
      rooted = nodes.1;
    }

-- and its header is possible
pub header_possible : (w : List ℕ) → whole_ok w ≡ true → card_ok_lem w ≡ true
unfolding whole_ok
header_possible w e =
    is_true (card_ok_lem w) (and_r (leb 8 (length w)) (card_ok_lem w) (and_l (leb 8 (length w) && card_ok_lem w) (leb (words_of_lem w) (length w))
    (holds (leb 8 (length w) && card_ok_lem w && leb (words_of_lem w) (length w)) e)))

-- the header's words are there
pub header_there : (w : List ℕ) → words_ok_lem w ≡ true → 8 ≤ length w
header_there w e = omega (arith, (whole w (words-whole w e).1).words)

-- ---- the shape
module _ (w : List ℕ) (W : Whole w) (t : T (tree_fits_lem w)) where
  -- the root's run is everything
  root_is : 1 ≤ nodes# w → (start# w 0 ≡ 0) × (count# w 0 ≡ n# w)
  root_is h =
      let a = eqb (start# w 0) 0 in
      let b = eqb (count# w 0) (n# w) in
      let r : T (a && b) = and_l (root_fits_lem w) (eqb (born w (nodes# w)) (nodes# w)) (subst T (root_some w (nodes# w) h) (root_ok w t)) in
      (eqb→eq (start# w 0) 0 (and_l a b r), eqb→eq (count# w 0) (n# w) (and_r a b r))

  -- EVERY RUN LIES INSIDE 0 .. n: by the numbers of the parents, k nodes' children at a time
  runs : (k : ℕ) → k ≤ nodes# w → 1 ≤ nodes# w → (j : ℕ) → j < born w k → start# w j + count# w j ≤ n# w
  unfolding born
  runs zero h s j q =
      let z : j ≡ 0 = omega arith in
      rw z (omega (arith, (root_is s).0, (root_is s).1))
  runs (suc k) h s j q = go (runs k (omega arith) s) (inner w k) refl q
    where
      go : ((j : ℕ) → j < born w k → start# w j + count# w j ≤ n# w) → (b : Bool) → inner w k ≡ b → j < born w k + cond b (m# w) 0
          → start# w j + count# w j ≤ n# w
      go ih false e q = ih j (omega arith)
      go ih true e q =
          by_cases (dec_lt j (born w k)) (λ l. ih j l)
          (λ l.
          let N = node_at w t k (omega arith) in
          let i : ℕ = j - born w k in
          let z : child# w k + i ≡ j = omega (arith, N.next e) in
          let p = tile-part w (child# w k) (m# w) (start# w k) (start# w k + count# w k) i (omega arith) (N.tiled e) in
          subst (λ j. start# w j + count# w j ≤ n# w) z (omega (arith, p.1, ih k (not-orphan w t k (omega arith)))))

  -- the next level down
  below : (left : ℕ) → 1 ≤ left → left ≤ max_depth → level w (max_depth - (left - 1)) ≡ born w (level w (max_depth - left))
  unfolding level
  below left q h =
      let z : max_depth - (left - 1) ≡ suc (max_depth - left) = omega arith in
      ap (level w) z

  -- an inner node has a level below it
  inner-deeper : (k left : ℕ) → k < nodes# w → inner w k ≡ true → Left w left k → 1 ≤ left
  inner-deeper k zero h e l = omega (arith, (node_at w t k h).shallow e, l.1)
  inner-deeper k (suc left) h e l = omega arith

  -- what the layers above use of an inner node's children
  kids-are : (k : ℕ) → k < nodes# w → inner w k ≡ true → Kids w k
  kids-are k h e =
      let v = node_at w t k h in
      record {
        inside = omega (arith, v.next e, room_for w t k h e);
        later = omega (arith, v.next e, not-orphan w t k h);
        tiled = v.tiled e;
        same = tile-first w (child# w k) (m# w) (start# w k) (start# w k + count# w k) (omega (arith, W.fan.0)) (v.tiled e);
        part = λ j q. tile-part w (child# w k) (m# w) (start# w k) (start# w k + count# w k) j q (v.tiled e);
        deeper = λ left l. inner-deeper k left h e l;
        down = λ left j l.
            let q = inner-deeper k left h e l in
            (omega (arith, l.0), omega (arith, v.next e, below left q l.0, born-le w (level w (max_depth - left)) k l.1));
      }

  -- a node at depth 24 is a leaf
  bottom-leaf : (k : ℕ) → k < nodes# w → level w max_depth ≤ k → inner w k ≡ false
  bottom-leaf k h l = go (inner w k) refl
    where
      go : (b : Bool) → inner w k ≡ b → b ≡ false
      go false e = refl
      go true e = absurd (omega (arith, (node_at w t k h).shallow e))

  -- what they use of a node
  node_in : (k : ℕ) → k < nodes# w → Node w k
  node_in k h =
      let v = node_at w t k h in
      record {
        some = v.some;
        run = runs (nodes# w) (omega arith) (omega arith) k (omega (arith, closed w t (omega arith)));
        near = v.small;
        nearer = v.smaller;
        kids = λ e. kids-are k h e;
        bottom = λ l. bottom-leaf k h l.1;
      }

-- what they use of a position
place_in : (w : List ℕ) → T (all (position_ok w) (range 0 (n# w))) → (p : ℕ) → p < n# w → Place w p
place_in w t p h =
    let q = position-is w t p h in
    record { row = q.0; near = q.1 }

-- WHAT THE SHAPE TEST SAYS
pub in_shape : (w : List ℕ) → whole_ok w ≡ true → shape_ok_lem w ≡ true → InShape w
unfolding shape_ok_lem
in_shape w e s =
    let W = whole w e in
    let b = all (position_ok w) (range 0 (n# w)) in
    let q : T (tree_fits_lem w && b) = holds (tree_fits_lem w && b) s in
    let t : T (tree_fits_lem w) = and_l (tree_fits_lem w) b q in
    record {
      whole = W;
      root = λ h. let r = root_is w W t (W.rooted h) in record { there = W.rooted h; start = r.0; count = r.1 };
      node = node_in w W t;
      place = place_in w (and_r (tree_fits_lem w) b q);
    }

-- ---- a descent
-- it starts at the root with all levels left
pub left_root : (w : List ℕ) → Left w max_depth 0
unfolding level
left_root w = (omega arith, omega arith)
