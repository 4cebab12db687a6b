-- The tree of an index that the full check accepts is well made. Assumes nothing.
use Prim.Native.Nat.{◌+◌, ◌-◌, ◌<◌, ◌≤◌, suc, zero, ℕ}
use Rattle.appending.proofs.Back.{entries_tree, tree-fits}
use Rattle.appending.proofs.Read.{forest}
use Rattle.laws.proofs.Every.{every_map}
use Rattle.laws.proofs.Lists.{map-map, rest_map}
use Rattle.laws.proofs.Ranges.{at_every, range_length}
use Rattle.laws.proofs.Tests.{and_r, is_true}
use Rattle.laws.proofs.Times.{lefts}
use Rattle.laws.specs.Every.{Every}
use Rattle.laws.specs.Lists.{greatest, lowest, range, rest}
use Rattle.limits.specs.Limits.{max_depth, max_distance}
use Rattle.tree.proofs.Accepted.{once-of, shape_of, sound-tree}
use Rattle.tree.proofs.Alike.{born-some, inner-is-nearest, radius-is}
use Rattle.tree.proofs.Encode.{Even}
use Rattle.tree.proofs.Forks.{kids-first, kids-rows}
use Rattle.tree.proofs.Good.{Good}
use Rattle.tree.proofs.Grown.{Spans, Tight}
use Rattle.tree.proofs.Members.{entries_at, kids-entries, kids-firsts, run-first}
use Rattle.tree.proofs.NoFaults.{no_faults}
use Rattle.tree.proofs.Rows.{by_root, full-tree, rows-low, rows-once}
use Rattle.tree.proofs.Shaped.{Fine}
use Rattle.tree.specs.Check.{Accepted}
use Rattle.tree.specs.Encode.{span}
use Rattle.tree.specs.Grove.{Grove, bare, entries, fork, leaf, members#, reach#, rows_in, tree_at, tree_of}
use Rattle.words.proofs.Levels.{born-inner, born-le, level-le}
use Rattle.words.proofs.Nodes.{node_at, node_ok}
use Rattle.words.specs.InShape.{InShape}
use Rattle.words.specs.Shape.{born, inner, level, node_ok_lem, tile, tree_fits_lem}
use Rattle.words.specs.Words.{nodes#, child#, count#, dist#, edition#, first#, inner#, l#, m#, n#, radius#, row#, run#, start#}
use borrow.Author.Tests.{eqb-true, leb-false, leb-true, ne_eqb, not-false}
use lib.Dec.{T, eqb, leb}
use lib.ListN.{length, length-map}
use mathlib.Core.Bool.{Bool, ◌&&◌, ◌||◌, cond, false, not, true}
use mathlib.Core.List.{List, map}
use mathlib.Core.Path.{◌∙◌, ◌≡◌, ap, refl, subst, sym}
use native.Mathlib.Nat.{add-suc, add-zero, suc-add}
use native.Mathlib.Omega.{arith}

-- ---- the node rule on counts and depth
module _ (w : List ℕ) (k : ℕ) (ok : T (node_ok_lem w k)) where
  -- the part of the test that goes by cases
  by_count : T (cond (leb (count# w k) (l# w) || leb (level w max_depth) k) (eqb (child# w k) 0)
      (eqb (child# w k) (born w k) && tile w (child# w k) (m# w) (start# w k) (start# w k + count# w k)))
  unfolding node_ok_lem
  by_count =
      and_r (leb 1 (count# w k) && leb (radius# w k) max_distance && leb (inner# w k) max_distance)
      (cond (leb (count# w k) (l# w) || leb (level w max_depth) k) (eqb (child# w k) 0)
      (eqb (child# w k) (born w k) && tile w (child# w k) (m# w) (start# w k) (start# w k + count# w k))) ok

  -- an inner node has more than l rows
  inner-many : inner w k ≡ true → l# w < count# w k
  inner-many e = go (leb (count# w k) (l# w)) refl by_count
    where
      tiles : Bool
      tiles = eqb (child# w k) (born w k) && tile w (child# w k) (m# w) (start# w k) (start# w k + count# w k)

      go : (b : Bool) → leb (count# w k) (l# w) ≡ b → T (cond (b || leb (level w max_depth) k) (eqb (child# w k) 0) tiles) → l# w < count# w k
      go true q t = absurd (subst T (sym e ∙ ap not (is_true (eqb (child# w k) 0) t)) tt)
      go false q t = leb-false (count# w k) (l# w) q

  -- a leaf has at most l, or is at depth 24
  leaf_few : inner w k ≡ false → 1 ≤ born w k → T (leb (count# w k) (l# w) || leb (level w max_depth) k)
  leaf_few e n = go (leb (count# w k) (l# w) || leb (level w max_depth) k) by_count
    where
      tiles : Bool
      tiles = tile w (child# w k) (m# w) (start# w k) (start# w k + count# w k)

      zero-child : child# w k ≡ 0
      zero-child = eqb-true (child# w k) 0 (not-false (eqb (child# w k) 0) e)

      go : (b : Bool) → T (cond b (eqb (child# w k) 0) (eqb (child# w k) (born w k) && tiles)) → T b
      go true t = tt
      go false t =
          let z : (eqb (child# w k) (born w k) && tiles) ≡ false =
          ap (λ (x : Bool). x && tiles) (ne_eqb (child# w k) (born w k) (λ q. omega (arith, zero-child))) in
          subst T z t

-- ---- depths
-- node k stands at depth dep
abbrev Deep : List ℕ → ℕ → ℕ → Type 0
Deep w dep k = (level w dep ≤ k) × (k < level w (suc dep))

-- at depth 24 no level is left
deep_end : (w : List ℕ) (dep deep k : ℕ) → Deep w dep k → dep + deep ≡ max_depth → (b : Bool) → T (b || leb (level w max_depth) k) → T (b || eqb deep 0)
deep_end w dep deep k h e true t = tt
deep_end w dep zero k h e false t = tt
deep_end w dep (suc deep) k h e false t =
    absurd (omega (arith, leb-true (level w max_depth) k (is_true (leb (level w max_depth) k) t), level-le w (suc dep) max_depth (omega arith), h.1))

module _ (w : List ℕ) (S : InShape w) (t : T (tree_fits_lem w)) where
  -- a child stands one deeper
  deep-kid : (dep k a : ℕ) → k < nodes# w → inner w k ≡ true → a < m# w → Deep w dep k → Deep w (suc dep) (child# w k + a)
  unfolding level
  deep-kid dep k a h e q d =
      let nx = (node_at w t k h).next e in (
        omega (arith, born-le w (level w dep) k d.0),
        omega (arith, born-inner w k e, born-le w (suc k) (born w (level w dep)) d.1),
      )

  -- how many nodes stand side by side
  forest-span : (deep j k : ℕ) → j + k ≤ nodes# w → span (forest w deep j k) ≡ k
  forest-span deep j k h = ap length (kids-firsts w S deep j k h) ∙ simp (length-map, range_length)

  -- how many members a node has
  count-members : (k : ℕ) → length (members# w k) ≡ count# w k
  count-members k = simp (length-map, range_length)

  -- ---- a fact of trees that nodes side by side have where each node has it, by the depth
  module _ (P : ℕ → Grove → Type 0) (none : (deep : ℕ) → P deep bare)
      (as-leaf : (dep deep k : ℕ) (g : Grove) → k < nodes# w → inner w k ≡ false → Deep w dep k → dep + deep ≡ max_depth → P deep g
      → P deep (leaf (reach# w k) (members# w k) g))
      (as-fork : (dep deep k : ℕ) (g : Grove) → k < nodes# w → inner w k ≡ true → Deep w dep k → dep + suc deep ≡ max_depth
      → P deep (forest w deep (child# w k) (m# w)) → P (suc deep) g
      → P (suc deep) (fork (reach# w k) (forest w deep (child# w k) (m# w)) g)) where
    -- it has it at node k
    tree-has : (dep deep k : ℕ) (g : Grove) → k < nodes# w → Deep w dep k → dep + deep ≡ max_depth → P deep g → P deep (tree_at w deep k g)
    unfolding tree_at
    tree-has dep zero k g h d e p = go (inner w k) refl
      where
        go : (b : Bool) → inner w k ≡ b → P 0 (leaf (reach# w k) (members# w k) g)
        go true q =
            let z : max_depth - 0 ≡ dep = omega arith in
            absurd (omega (arith, ((S.node k h).kids q).deeper 0 (omega arith, subst (λ (i : ℕ). level w i ≤ k) (sym z) d.0)))
        go false q = as-leaf dep 0 k g h q d e p
    tree-has dep (suc deep) k g h d e p = go (tree-has (suc dep) deep) (inner w k) refl
      where
        kids : ((k : ℕ) (g : Grove) → k < nodes# w → Deep w (suc dep) k → suc dep + deep ≡ max_depth → P deep g → P deep (tree_at w deep k g))
            → (j m : ℕ) → j + m ≤ nodes# w → ((a : ℕ) → a < m → Deep w (suc dep) (j + a)) → P deep (forest w deep j m)
        kids ih j zero q f = none deep
        kids ih j (suc m) q f =
            ih j (forest w deep (suc j) m) (omega arith) (rw (add-zero j) at (f 0 (omega arith))) (omega arith)
            (kids ih (suc j) m (omega arith) (λ a u. rw (add-suc j a, ← suc-add j a) at (f (suc a) (omega arith))))

        go : ((k : ℕ) (g : Grove) → k < nodes# w → Deep w (suc dep) k → suc dep + deep ≡ max_depth → P deep g → P deep (tree_at w deep k g))
            → (b : Bool) → inner w k ≡ b
            → P (suc deep) (cond b (fork (reach# w k) (forest w deep (child# w k) (m# w)) g) (leaf (reach# w k) (members# w k) g))
        go ih true q =
            as-fork dep deep k g h q d e
            (kids ih (child# w k) (m# w) ((S.node k h).kids q).inside (λ a u. deep-kid dep k a h q u d)) p
        go ih false q = as-leaf dep (suc deep) k g h q d e p

    -- and so at the root
    tree-of : P max_depth (tree_of w)
    unfolding level born
    tree-of =
        by_root (P max_depth) w (λ h. tree-has 0 max_depth 0 bare h (omega arith, omega arith) (omega arith) (none max_depth)) (λ e. none max_depth)

  -- M CHILDREN BELOW EACH INNER NODE
  pub even-tree : Even (m# w) (tree_of w)
  even-tree =
      tree-of (λ deep g. Even (m# w) g) (λ deep. tt) (λ dep deep k g h q d e p. p)
      (λ dep deep k g h q d e ks p. (forest-span deep (child# w k) (m# w) ((S.node k h).kids q).inside, ks, p))

  -- LEAVES BY THE RULE OF COUNT AND DEPTH
  pub fine-tree : Fine (l# w) max_depth (tree_of w)
  fine-tree =
      tree-of (Fine (l# w)) (λ deep. tt)
      (λ dep deep k g h q d e p.
      let v = node_at w t k h in (
        subst (λ (c : ℕ). 1 ≤ c) (sym (count-members k)) v.some,
        (v.small, v.smaller),
        subst (λ (c : ℕ). T (leb c (l# w) || eqb deep 0)) (sym (count-members k))
            (deep_end w dep deep k d e (leb (count# w k) (l# w)) (leaf_few w k (node_ok w t k h) q (born-some w k))),
        p,
      ))
      (λ dep deep k g h q d e ks p.
      let v = node_at w t k h in
      let K = (S.node k h).kids q in
      let len : length (entries (forest w deep (child# w k) (m# w))) ≡ count# w k =
      ap length (kids-entries w S (tree_at w deep) (entries_at w S deep) (child# w k) (m# w) (start# w k) (count# w k) K.inside K.tiled)
      ∙ count-members k in
      (subst (λ (c : ℕ). l# w < c) (sym len) (inner-many w k (node_ok w t k h) q), (v.small, v.smaller), ks, p))

  -- EXACT REACHES, where each node's is
  pub tight-tree : (d : ℕ → ℕ → ℕ) → ((k : ℕ) → k < nodes# w → Spans d (reach# w k) (first# w k) (lefts (members# w k))) → Tight d (tree_of w)
  tight-tree d f =
      tree-of (λ deep g. Tight d g) (λ deep. tt)
      (λ dep deep k g h q u e p.
      let first = run-first w S (start# w k) (count# w k) (S.node k h).some in
      (subst (λ (i : ℕ). Spans d (reach# w k) i (lefts (members# w k))) (sym first) (f k h), p))
      (λ dep deep k g h q u e ks p.
      let K : Grove = forest w deep (child# w k) (m# w) in (
        subst (λ (i : ℕ). Spans d (reach# w k) i (rows_in K)) (sym (kids-first w S deep k h q))
            (subst (λ (is : List ℕ). Spans d (reach# w k) (first# w k) is) (sym (kids-rows w S deep k h q)) (f k h)),
        ks,
        p,
      ))

-- the exact reach of node k, read from the check
reach_is : (d : ℕ → ℕ → ℕ) (w : List ℕ) → Accepted d w → edition# w ≡ 2 → (k : ℕ) → k < nodes# w
    → Spans d (reach# w k) (first# w k) (lefts (members# w k))
reach_is d w A two k h =
    let f : ℕ → ℕ = d (first# w k) in
    let O = no_faults d w A.sound in
    let rows : map (row# w) (run# w k) ≡ lefts (members# w k) = map-map (λ e. e.0) (λ p. (row# w p, dist# w p)) (run# w k) in (
      radius-is d w O k h ∙ ap greatest (map-map f (row# w) (run# w k) ∙ ap (map f) rows),
      inner-is-nearest d w O two k h
          ∙ ap lowest (map-map f (row# w) (rest (run# w k)) ∙ ap (map f) (sym (rest_map (row# w) (run# w k)) ∙ ap rest rows)),
    )

-- THE TREE OF AN ACCEPTED INDEX IS WELL MADE, in edition 2: edition 1 does not keep the inner reaches
pub accepted_good : (d : ℕ → ℕ → ℕ) (w : List ℕ) → Accepted d w → edition# w ≡ 2 → 1 ≤ n# w → Good d (m# w) (l# w) (tree_of w)
accepted_good d w A two some =
    let S = shape_of d w A in
    let t = tree-fits w A.shape in
    let len : length (entries (tree_of w)) ≡ n# w = ap length (entries_tree w S) ∙ simp (length-map, range_length) in
    record {
      one = by_root (λ g. span g ≡ 1) w (λ h. forest-span w S t max_depth 0 1 h) (λ e. absurd (omega (arith, S.whole.rooted some)));
      full = full-tree w S;
      even = even-tree w S t;
      fine = fine-tree w S t;
      sound = sound-tree d w A;
      tight = tight-tree w S t d (reach_is d w A two);
      rows = subst (λ (n : ℕ). Every (λ i. i < n) (rows_in (tree_of w))) (sym len) (rows-low w S);
      once = rows-once w S (once-of d w A);
      dists = subst (Every (λ e. e.1 ≤ max_distance)) (sym (entries_tree w S))
          (every_map (λ e. e.1 ≤ max_distance) (λ p. (row# w p, dist# w p)) (range 0 (n# w))
          (at_every (λ p. dist# w p ≤ max_distance) (n# w) (λ p q. (S.place p q).near)));
    }
