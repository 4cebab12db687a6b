-- What the nodes' part of the shape says of each node. Assumes nothing.
use Prim.Native.Nat.{◌+◌, ◌-◌, ◌<◌, ◌≤◌, suc, zero, ℕ}
use Rattle.laws.proofs.Every.{all-every}
use Rattle.laws.proofs.Ranges.{every-at}
use Rattle.laws.proofs.Tests.{and_l, and_r, is_true}
use Rattle.laws.specs.Lists.{all, range}
use Rattle.limits.specs.Limits.{max_depth, max_distance}
use Rattle.words.proofs.Levels.{born-inner, born-le, level-stays}
use Rattle.words.specs.Shape.{born, inner, level, node_ok_lem, root_fits_lem, root_ok_lem, tile, tree_fits_lem}
use Rattle.words.specs.Words.{nodes#, child#, count#, inner#, l#, m#, radius#, start#}
use borrow.Author.Tests.{leb-false, leb-true}
use lib.Dec.{T, eqb, eqb→eq, leb, leb→le}
use mathlib.Core.Bool.{Bool, ◌&&◌, ◌||◌, cond, false, not, true}
use mathlib.Core.List.{List}
use mathlib.Core.Path.{◌∙◌, ◌≡◌, ap, refl, subst, sym}
use native.Mathlib.Nat.{add-suc, add-zero, not-suc-le-zero}
use native.Mathlib.Omega.{arith}

-- what the test of node k says
pub record NodeIs (w : List ℕ) (k : ℕ) : Type 0 where
  pub some : 1 ≤ count# w k
  pub small : radius# w k ≤ max_distance
  pub smaller : inner# w k ≤ max_distance
  pub shallow : inner w k ≡ true → k < level w max_depth
  pub next : inner w k ≡ true → child# w k ≡ born w k
  pub tiled : inner w k ≡ true → T (tile w (child# w k) (m# w) (start# w k) (start# w k + count# w k))

module _ (w : List ℕ) (k : ℕ) where
  -- node k's children's runs tile its own
  abbrev tiles : Bool
  tiles = tile w (child# w k) (m# w) (start# w k) (start# w k + count# w k)

  -- a leaf is not inner
  leaf_not : T (eqb (child# w k) 0) → inner w k ≡ true → ⊥
  leaf_not t e = subst T (sym e ∙ ap not (is_true (eqb (child# w k) 0) t)) tt

  -- the part of the test that goes by cases
  by_case_lem : (few deep : Bool) → leb (level w max_depth) k ≡ deep
      → T (cond (few || deep) (eqb (child# w k) 0) (eqb (child# w k) (born w k) && tiles))
      → inner w k ≡ true → (k < level w max_depth) × (child# w k ≡ born w k) × T tiles
  by_case_lem true deep h t e = absurd (leaf_not t e)
  by_case_lem false true h t e = absurd (leaf_not t e)
  by_case_lem false false h t e = (
    leb-false (level w max_depth) k h,
    eqb→eq (child# w k) (born w k) (and_l (eqb (child# w k) (born w k)) tiles t),
    and_r (eqb (child# w k) (born w k)) tiles t,
  )

  -- the test of node k, read
  node_is : T (node_ok_lem w k) → NodeIs w k
  unfolding node_ok_lem
  node_is t =
      let a = leb 1 (count# w k) in
      let b = leb (radius# w k) max_distance in
      let i = leb (inner# w k) max_distance in
      let few = leb (count# w k) (l# w) in
      let deep = leb (level w max_depth) k in
      let c = cond (few || deep) (eqb (child# w k) 0) (eqb (child# w k) (born w k) && tiles) in
      let p = by_case_lem few deep refl (and_r (a && b && i) c t) in
      let u = and_l (a && b && i) c t in
      record {
        some = leb→le 1 (count# w k) (and_l a b (and_l (a && b) i u));
        small = leb→le (radius# w k) max_distance (and_r a b (and_l (a && b) i u));
        smaller = leb→le (inner# w k) max_distance (and_r (a && b) i u);
        shallow = λ e. (p e).0;
        next = λ e. (p e).1;
        tiled = λ e. (p e).2;
      }

-- where there is a root, its part of the shape
pub root_some : (w : List ℕ) (N : ℕ) → 1 ≤ N → root_ok_lem w N ≡ (root_fits_lem w && eqb (born w N) N)
root_some w zero h = absurd (not-suc-le-zero h)
root_some w (suc N) h = refl

module _ (w : List ℕ) (t : T (tree_fits_lem w)) where
  -- the root's part of the shape holds
  pub root_ok : T (root_ok_lem w (nodes# w))
  root_ok = and_l (root_ok_lem w (nodes# w)) (all (node_ok_lem w) (range 0 (nodes# w))) t

  -- each node passes its test
  pub node_ok : (k : ℕ) → k < nodes# w → T (node_ok_lem w k)
  node_ok k h =
      every-at (λ k. T (node_ok_lem w k)) (nodes# w) k (all-every (node_ok_lem w) (range 0 (nodes# w)) (and_r (root_ok_lem w (nodes# w)) (all (node_ok_lem w) (range 0 (nodes# w))) t)) h

  -- so that it is what the test says
  pub node_at : (k : ℕ) → k < nodes# w → NodeIs w k
  node_at k h = node_is w k (node_ok k h)

  -- all nodes are born when all are passed
  pub closed : 1 ≤ nodes# w → born w (nodes# w) ≡ nodes# w
  closed h = eqb→eq (born w (nodes# w)) (nodes# w) (and_r (root_fits_lem w) (eqb (born w (nodes# w)) (nodes# w)) (subst T (root_some w (nodes# w) h) root_ok))

  -- after a node that is nobody's child there are only leaves, so that no more nodes are born
  stays : (k j : ℕ) → born w k ≤ k → k + j ≤ nodes# w → born w (k + j) ≤ k
  unfolding born
  stays k zero h q = rw (add-zero k) h
  stays k (suc j) h q = rw (add-suc k j) (go (stays k j h (omega arith)) (inner w (k + j)) refl)
    where
      go : born w (k + j) ≤ k → (b : Bool) → inner w (k + j) ≡ b → born w (k + j) + cond b (m# w) 0 ≤ k
      go ih true e = absurd (omega (arith, (node_at (k + j) (omega arith)).shallow e, level-stays w k max_depth h))
      go ih false e = omega arith

  -- EACH NODE BUT THE ROOT IS A CHILD OF ONE BEFORE IT
  pub not-orphan : (k : ℕ) → k < nodes# w → k < born w k
  not-orphan k h = go (leb (born w k) k) refl
    where
      go : (b : Bool) → leb (born w k) k ≡ b → k < born w k
      go false e = leb-false (born w k) k e
      go true e =
          let q : k + (nodes# w - k) ≡ nodes# w = omega arith in
          absurd (omega (arith, closed (omega arith), rw q at (stays k (nodes# w - k) (leb-true (born w k) k e) (omega arith))))

  -- THE CHILDREN OF AN INNER NODE ARE NODES
  pub room_for : (k : ℕ) → k < nodes# w → inner w k ≡ true → born w k + m# w ≤ nodes# w
  room_for k h e = omega (arith, born-inner w k e, born-le w (suc k) (nodes# w) h, closed (omega arith))
