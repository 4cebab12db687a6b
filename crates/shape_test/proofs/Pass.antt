-- The pass over the nodes gives the shape test: the counters are those of the definition, and no node of an index in shape is
-- nobody's child. Assumes nothing.
use Prim.Native.Nat.{◌*◌, ◌+◌, ◌-◌, ◌<◌, ◌≤◌, suc, ℕ}
use Rattle.laws.proofs.Ranges.{all_end, all_start, all-step}
use Rattle.laws.proofs.Tests.{and_of, and_r, holds, is_true, refute}
use Rattle.laws.specs.Lists.{all, range}
use Rattle.limits.specs.Limits.{max_depth}
use Rattle.shape_test.specs.Pass.{Counted, fits, roomy}
use Rattle.words.proofs.Levels.{brood-few, level-le}
use Rattle.words.proofs.Nodes.{node_ok, not-orphan, room_for, root_some}
use Rattle.words.specs.Shape.{born, brood, inner, level, node_fits, node_ok_lem, position_ok, root_fits_lem, shape_ok_lem, tree_fits_lem}
use Rattle.words.specs.Words.{nodes#, m#, n#}
use borrow.Author.Tests.{le-leb, leb-false, leb-true, lt-leb}
use lib.Dec.{T, eqb, leb}
use mathlib.Core.Bool.{Bool, ◌&&◌, ◌||◌, and-true, false, not, true}
use mathlib.Core.List.{List}
use mathlib.Core.Path.{◌∙◌, ◌≡◌, ap, refl, subst, sym}
use native.Mathlib.Numerals.{add-one}
use native.Mathlib.Omega.{arith}

module _ (w : List ℕ) where
  -- ---- the counters
  -- at the root
  counted_start : Counted w 0 1 1 0
  unfolding born level
  counted_start = record { next-is = refl; edge_is = refl; low = omega arith; high = λ h. h }

  module _ {k next edge depth : ℕ} (C : Counted w k next edge depth) where
    -- what is counted on after node k
    counted_next : next + brood w k ≡ born w (k + 1)
    unfolding born
    counted_next = rw (add-one k, C.next-is)

    -- the next node of the same level
    counted-on : k < next → (k + 1 ≡ edge → ⊥) → Counted w (k + 1) (next + brood w k) edge depth
    counted-on h q =
        record {
          next-is = counted_next;
          edge_is = C.edge_is;
          low = omega (arith, C.low);
          high = λ _. omega (arith, C.high h);
        }

    -- the first node of the next level
    counted-turn : k + 1 ≡ edge → Counted w (k + 1) (next + brood w k) (next + brood w k) (depth + 1)
    unfolding level
    counted-turn q =
        record {
          next-is = counted_next;
          edge_is = rw (add-one depth) (counted_next ∙ ap (born w) (q ∙ C.edge_is));
          low = rw (add-one depth) (omega (arith, C.edge_is));
          high = λ h. h;
        }

    -- the depth says whether the node is at depth 24
    counted-deep : k < next → leb max_depth depth ≡ leb (level w max_depth) k
    counted-deep h = go (leb max_depth depth) refl
      where
        go : (b : Bool) → leb max_depth depth ≡ b → b ≡ leb (level w max_depth) k
        go true e = sym (le-leb (level w max_depth) k (omega (arith, level-le w max_depth depth (leb-true max_depth depth e), C.low)))
        go false e =
            sym (lt-leb (level w max_depth) k
            (omega (arith, level-le w (suc depth) max_depth (leb-false max_depth depth e), C.high h, C.edge_is)))

-- ---- a node's test, by the counters' numbers
module _ (w : List ℕ) (k : ℕ) {next : ℕ} {deep : Bool} (p : next ≡ born w k) (q : deep ≡ leb (level w max_depth) k) where
  -- A NODE THAT PASSES IS RIGHT
  fit-sound : (roomy w k next && node_fits w k next deep) ≡ true → node_ok_lem w k ≡ true
  unfolding node_ok_lem
  fit-sound e =
      is_true (node_fits w k (born w k) (leb (level w max_depth) k))
      (and_r (roomy w k (born w k)) (node_fits w k (born w k) (leb (level w max_depth) k)) (subst T (sym (rw (p, q) at e)) tt))

  -- AND A RIGHT ONE PASSES
  fit-complete : T (tree_fits_lem w) → k < nodes# w → (roomy w k next && node_fits w k next deep) ≡ true
  unfolding node_ok_lem
  fit-complete t h =
      rw (p, q) (is_true (roomy w k (born w k) && node_fits w k (born w k) (leb (level w max_depth) k))
      (and_of (roomy w k (born w k)) (node_fits w k (born w k) (leb (level w max_depth) k)) (room (inner w k) refl) (node_ok w t k h)))
    where
      room : (b : Bool) → inner w k ≡ b → T (not b || leb (born w k + m# w) (nodes# w))
      room true e = holds (leb (born w k + m# w) (nodes# w)) (le-leb (born w k + m# w) (nodes# w) (room_for w t k h e))
      room false e = tt

-- ---- the three ends of the pass
module _ (w : List ℕ) where
  -- a node that is nobody's child
  ends-orphan : (k : ℕ) → k < nodes# w → born w k ≤ k → false ≡ tree_fits_lem w
  ends-orphan k h q = refute (tree_fits_lem w) (λ t. omega (arith, not-orphan w t k h))

  -- a node that does not fit
  ends-unfit : (k : ℕ) {next : ℕ} {deep : Bool} → k < nodes# w → next ≡ born w k → deep ≡ leb (level w max_depth) k
      → (roomy w k next && node_fits w k next deep) ≡ false → false ≡ tree_fits_lem w
  ends-unfit k h p q e = refute (tree_fits_lem w) (λ t. subst T (sym (fit-complete w k p q t h) ∙ e) tt)

  -- the last node, with all before it right: all nodes are children exactly if the next number is N
  ends-whole : {next : ℕ} → 1 ≤ nodes# w → root_fits_lem w ≡ true → all (node_ok_lem w) (range 0 (nodes# w)) ≡ true → next ≡ born w (nodes# w)
      → eqb next (nodes# w) ≡ tree_fits_lem w
  ends-whole h r a p = rw (root_some w (nodes# w) h, r, a, and-true, p)

  -- the root's run is not everything
  pub ends-rootless : 1 ≤ nodes# w → root_fits_lem w ≡ false → false ≡ tree_fits_lem w
  ends-rootless h r = rw (root_some w (nodes# w) h, r)

  -- there are no nodes
  pub ends-empty : nodes# w ≡ 0 → true ≡ tree_fits_lem w
  ends-empty e = rw e

-- ---- the pass: what holds at node k
pub record Going (w : List ℕ) (nodes next edge depth k : ℕ) : Type 0 where
  pub nodes_are : nodes ≡ nodes# w
  pub upto : k ≤ nodes
  pub next_low : next ≤ 64 * k + 1
  pub depth_low : depth ≤ k
  pub counted : Counted w k next edge depth
  pub so_far : all (node_ok_lem w) (range 0 (nodes# w)) ≡ all (node_ok_lem w) (range k (nodes# w - k))

module _ (w : List ℕ) {nodes : ℕ} where
  -- at the root
  pub going_start : nodes ≡ nodes# w → Going w nodes 1 1 0 0
  going_start e =
      record {
        nodes_are = e;
        upto = omega arith;
        next_low = omega arith;
        depth_low = omega arith;
        counted = counted_start w;
        so_far = all_start (node_ok_lem w) (nodes# w);
      }

  module _ {next edge depth k : ℕ} (G : Going w nodes next edge depth k) (h : k < nodes) where
    -- node k is one of the N
    in-range : k < nodes# w
    in-range = omega (arith, G.nodes_are)

    -- node k is nobody's child
    pub going-orphan : next ≤ k → false ≡ tree_fits_lem w
    going-orphan q = ends-orphan w k in-range (omega (arith, G.counted.next-is))

    module _ (kid : k < next) where
      -- node k does not fit
      pub going-unfit : fits w k next depth ≡ false → false ≡ tree_fits_lem w
      going-unfit e = ends-unfit w k in-range G.counted.next-is (counted-deep w G.counted kid) e

      module _ {b : ℕ} (few : m# w ≤ 64) (fit : fits w k next depth ≡ true) (e : b ≡ brood w k) where
        -- node k fits: the next node's turn, wherever the next level starts
        going_more : {edge' depth' : ℕ} → depth' ≤ k + 1 → Counted w (k + 1) (next + brood w k) edge' depth'
            → Going w nodes (next + b) edge' depth' (k + 1)
        going_more {edge'} {depth'} q C =
            record {
              nodes_are = G.nodes_are;
              upto = omega arith;
              next_low = omega (arith, G.next_low, brood-few w k few);
              depth_low = q;
              counted = rw e C;
              so_far = G.so_far ∙ all-step (node_ok_lem w) k (nodes# w) in-range
                  (fit-sound w k G.counted.next-is (counted-deep w G.counted kid) fit);
            }

        -- the next node is of the same level
        pub going_on : (k + 1 ≡ edge → ⊥) → Going w nodes (next + b) edge depth (k + 1)
        going_on q = going_more (omega (arith, G.depth_low)) (counted-on w G.counted kid q)

        -- the next node is the first of the next level
        pub going-turn : k + 1 ≡ edge → Going w nodes (next + b) (next + b) (depth + 1) (k + 1)
        going-turn q = going_more (omega (arith, G.depth_low)) (rw e (counted-turn w G.counted q))

  -- after the last node
  pub going_done : {next edge depth k : ℕ} → Going w nodes next edge depth k → nodes ≤ k → 1 ≤ nodes → root_fits_lem w ≡ true → eqb next nodes ≡ tree_fits_lem w
  going_done {next} {edge} {depth} {k} G h s r =
      let q : k ≡ nodes# w = omega (arith, G.upto, G.nodes_are) in
      rw G.nodes_are
      (ends-whole w (omega (arith, G.nodes_are)) r (G.so_far ∙ sym (all_end (node_ok_lem w) k (nodes# w) (omega arith)))
      (G.counted.next-is ∙ ap (born w) q))

-- ---- the two passes together
-- the nodes do not fit
pub shape_stop : (w : List ℕ) → tree_fits_lem w ≡ false → false ≡ shape_ok_lem w
unfolding shape_ok_lem
shape_stop w e = rw e

-- they do: the positions decide
pub shape_go_on : (w : List ℕ) → tree_fits_lem w ≡ true → all (position_ok w) (range 0 (n# w)) ≡ shape_ok_lem w
unfolding shape_ok_lem
shape_go_on w e = rw e
