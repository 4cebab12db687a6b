-- The marks at a node of an index in shape, by its words: swept, closed, an opened leaf's or an opened inner node's. Assumes nothing.
use Prim.Native.Nat.{◌+◌, ◌-◌, ◌<◌, ◌≤◌, suc, zero, ℕ}
use Rattle.descending.specs.Descent.{fate_marks, kid_marks, node_marks}
use Rattle.fates.specs.Settling.{fate_of_lem}
use Rattle.fates.specs.declared.Fate.TheVariants.{Closed, Opened, Swept}
use Rattle.fates.specs.declared.Fate.{Fate}
use Rattle.laws.proofs.Lists.{map-map, paired, rest_map}
use Rattle.laws.proofs.Maps.{map_agree, map_each}
use Rattle.laws.proofs.Times.{lefts}
use Rattle.laws.specs.Lists.{each, head, least, range, rest}
use Rattle.leaf_decision.proofs.Did.{leaf-mark}
use Rattle.leaf_decision.specs.Decision.{leaf_at, leaf_mark}
use Rattle.marking.specs.Marks.{centre_at, first_at, least_from}
use Rattle.tree.proofs.Forks.{as-fork, as-leaf, fork_node, kids-first, kids-rows, kids_at, leaf_node, no-levels}
use Rattle.tree.proofs.Members.{kids-firsts, run-first}
use Rattle.tree.specs.Grove.{Grove, Reach, bare, first, firsts, leaf, members#, rows_in, reach#, tree_at}
use Rattle.tree.specs.Homes.{child_bound_lem, nearest_of}
use Rattle.tree.specs.Radius.{by_distance, in_leaf_lem, marks_in, visit}
use Rattle.words.specs.InShape.{InShape}
use Rattle.words.specs.Shape.{inner}
use Rattle.words.specs.Words.{nodes#, child#, count#, dist#, first#, m#, radius#, row#, start#}
use lib.Dec.{leb, ltb}
use mathlib.Core.Bool.{Bool, cond, false, true}
use mathlib.Core.List.{List, [], ◌++◌, ◌∷◌, append-nil, foldr, map}
use mathlib.Core.Path.{◌∙◌, ◌≡◌, ap, ap₂, refl, subst, sym}
use native.Mathlib.Nat.{not-suc-le-zero}
use native.Mathlib.Omega.{arith}

-- ---- lists
-- all numbers but the first
rest_range : (s n : ℕ) → rest (range s n) ≡ range (suc s) (n - 1)
rest_range s zero = refl
rest_range s (suc n) =
    let e : n ≡ suc n - 1 = omega arith in
    ap (range (suc s)) e

-- all but the first of what stands at k numbers from s on
rest_at : {A : Type 0} (f : ℕ → A) (s n : ℕ) → rest (map f (range s n)) ≡ map f (range (suc s) (n - 1))
rest_at f s n = rest_map f (range s n) ∙ ap (map f) (rest_range s n)

-- ---- what becomes of a node
-- the definition's marks of a node, by its fate
fate_visit : (x : ℕ → ℕ) (r xf : ℕ) (R : Reach) (b : ℕ) (others : List ℕ) (opened : List (ℕ × ℕ))
    → visit x r xf R b others opened ≡ fate_marks others opened (fate_of_lem xf R.outer b r)
unfolding fate_of_lem
fate_visit x r xf R b others opened = go (leb (xf + R.outer) r) (ltb r b)
  where
    go : (s t : Bool) → cond s (map (λ i. (i, 2)) others) (cond t (map (λ i. (i, 0)) others) opened)
        ≡ fate_marks others opened (cond s Swept (cond t Closed Opened))
    go true t = refl
    go false true = refl
    go false false = refl

module _ (w : List ℕ) where
  -- the positions of node k's run but the first
  abbrev pub rest# : ℕ → List ℕ
  rest# k = range (suc (start# w k)) (count# w k - 1)

  -- the tree at an inner node with a level left
  tree-fork : (deep k : ℕ) (g : Grove) → 1 ≤ deep → inner w k ≡ true → tree_at w deep k g ≡ fork_node w (deep - 1) k g
  tree-fork zero k g h e = absurd (not-suc-le-zero h)
  tree-fork (suc deep) k g h e =
      let p : deep ≡ suc deep - 1 = omega arith in
      as-fork w deep k g e ∙ ap (λ d. fork_node w d k g) p

  -- one of the two is the case
  by-node : {P : Type 0} (deep k : ℕ) → (((g : Grove) → tree_at w deep k g ≡ leaf_node w k g) → P)
      → (inner w k ≡ true → ((g : Grove) → tree_at w deep k g ≡ fork_node w (deep - 1) k g) → P) → P
  by-node zero k a b = a (λ g. no-levels w k g)
  by-node {P} (suc deep) k a b = go (inner w k) refl
    where
      go : (i : Bool) → inner w k ≡ i → P
      go false e = a (λ g. as-leaf w (suc deep) k g e)
      go true e = b e (λ g. tree-fork (suc deep) k g (omega arith) e)

module _ (x : ℕ → ℕ) (r : ℕ) (w : List ℕ) where
  -- swept, closed, or `opened`
  abbrev pub visit_at : ℕ → ℕ → List (ℕ × ℕ) → List (ℕ × ℕ)
  visit_at k b opened = visit x r (first_at x w k) (reach# w k) b (map (row# w) (rest# w k)) opened

  -- by its fate v
  pub visit-at : (k b : ℕ) (o : List (ℕ × ℕ)) {d : ℕ} {v : Fate} → d ≡ first_at x w k → v ≡ fate_of_lem d (radius# w k) b r
      → visit_at k b o ≡ fate_marks (map (row# w) (rest# w k)) o v
  visit-at k b o e f =
      fate_visit x r (first_at x w k) (reach# w k) b (map (row# w) (rest# w k)) o
      ∙ ap (fate_marks (map (row# w) (rest# w k)) o) (sym (f ∙ ap (λ (d : ℕ). fate_of_lem d (radius# w k) b r) e))

  -- the marks of an opened leaf
  abbrev pub leaf_opened : ℕ → List (ℕ × ℕ)
  leaf_opened k = each (leaf_at x r w (first_at x w k)) (rest# w k)

  -- the marks of an opened inner node: its centres but the first, and then its children
  abbrev pub inner_opened : ℕ → ℕ → ℕ → List (ℕ × ℕ)
  inner_opened deep b ch = each (centre_at x r w) (range (suc ch) (m# w - 1)) ++ each (kid_marks x r w deep b ch) (range ch (m# w))

module _ (x : ℕ → ℕ) (r : ℕ) (w : List ℕ) (S : InShape w) where
  -- the rows of node k but the first
  rows-rest : (k : ℕ) → rest (lefts (members# w k)) ≡ map (row# w) (rest# w k)
  rows-rest k = ap rest (paired (row# w) (dist# w) (range (start# w k) (count# w k))) ∙ rest_at (row# w) (start# w k) (count# w k)

  -- the same by the children of an inner node
  rest_rows : (deep k : ℕ) → k < nodes# w → inner w k ≡ true → rest (rows_in (kids_at w deep k)) ≡ map (row# w) (rest# w k)
  rest_rows deep k h e = ap rest (kids-rows w S deep k h e) ∙ rows-rest k

  -- ---- the marks at a node, and those of the nodes after it
  -- one node with the first f and the marks `here` by its bound: f is the row at the start of its run
  one-node : (β : ℕ → Reach → ℕ) (k f : ℕ) (here : ℕ → List (ℕ × ℕ)) (after node : List (ℕ × ℕ)) → f ≡ first# w k
      → node ≡ here (β (first_at x w k) (reach# w k)) ++ []
      → here (β (x f) (reach# w k)) ++ after ≡ node ++ after
  one-node β k f here after node e p =
      ap (λ (i : ℕ). here (β (x i) (reach# w k)) ++ after) e
      ∙ ap (λ l. l ++ after) (sym (p ∙ append-nil (here (β (first_at x w k) (reach# w k)))))

  -- a node's marks come before those of the nodes after it
  marks-at : (β : ℕ → Reach → ℕ) (deep k : ℕ) (g : Grove) → k < nodes# w
      → marks_in x r β (tree_at w deep k g) ≡ node_marks x r w deep k (β (first_at x w k) (reach# w k)) ++ marks_in x r β g
  unfolding marks_in node_marks
  marks-at β deep k g h =
      let b : ℕ = β (first_at x w k) (reach# w k) in
      by-node w deep k
      (λ t.
      let es : List (ℕ × ℕ) = members# w k in
      let f : ℕ = head (lefts es) in
      ap (marks_in x r β) (t g)
      ∙ one-node β k f (λ b. visit x r (x f) (reach# w k) b (rest (lefts es)) (map (λ e. (e.0, in_leaf_lem x r f e)) (rest es)))
      (marks_in x r β g) (marks_in x r (λ x R. b) (tree_at w deep k bare)) (run-first w S (start# w k) (count# w k) (S.node k h).some) (ap (marks_in x r (λ x R. b)) (t bare)))
      (λ e t.
      let ks : Grove = kids_at w (deep - 1) k in
      ap (marks_in x r β) (t g)
      ∙ one-node β k (first ks)
      (λ b. visit x r (x (first ks)) (reach# w k) b (rest (rows_in ks)) (map (λ i. (i, by_distance x r i)) (rest (firsts ks)) ++ marks_in x r (child_bound_lem b (nearest_of x ks)) ks))
      (marks_in x r β g) (marks_in x r (λ x R. b) (tree_at w deep k bare)) (kids-first w S (deep - 1) k h e) (ap (marks_in x r (λ x R. b)) (t bare)))

  -- the marks of nodes side by side are theirs one after the other
  kids-marks : (β : ℕ → Reach → ℕ) (deep j m : ℕ) → j + m ≤ nodes# w
      → marks_in x r β (foldr (tree_at w deep) bare (range j m)) ≡ each (λ i. node_marks x r w deep i (β (first_at x w i) (reach# w i))) (range j m)
  unfolding marks_in
  kids-marks β deep j zero h = refl
  kids-marks β deep j (suc m) h =
      marks-at β deep j (foldr (tree_at w deep) bare (range (suc j) m)) (omega arith)
      ∙ ap (λ l. node_marks x r w deep j (β (first_at x w j) (reach# w j)) ++ l) (kids-marks β deep (suc j) m (omega arith))

  -- ---- the marks at a node, by its words
  -- a node that is a leaf
  leaf-by : (deep k b : ℕ) → k < nodes# w → ((g : Grove) → tree_at w deep k g ≡ leaf_node w k g)
      → node_marks x r w deep k b ≡ visit_at x r w k b (leaf_opened x r w k)
  unfolding marks_in node_marks
  leaf-by deep k b h t =
      let es : List (ℕ × ℕ) = members# w k in
      let vis : ℕ → List ℕ → List (ℕ × ℕ) → List (ℕ × ℕ) = λ f o q. visit x r (x f) (reach# w k) b o q in
      let q : ℕ → List (ℕ × ℕ) = λ f. map (λ e. (e.0, in_leaf_lem x r f e)) (rest es) in
      ap (marks_in x r (λ x R. b)) (t bare) ∙ append-nil (vis (head (lefts es)) (rest (lefts es)) (q (head (lefts es))))
      ∙ ap (λ (f : ℕ). vis f (rest (lefts es)) (q f)) (run-first w S (start# w k) (count# w k) (S.node k h).some)
      ∙ ap₂ (vis (first# w k)) (rows-rest k)
      (ap (map (λ e. (e.0, in_leaf_lem x r (first# w k) e))) (rest_at (λ p. (row# w p, dist# w p)) (start# w k) (count# w k))
      ∙ sym (map-map (λ e. (e.0, in_leaf_lem x r (first# w k) e)) (λ p. (row# w p, dist# w p)) (rest# w k))
      ∙ map_agree (λ p. (row# w p, in_leaf_lem x r (first# w k) (row# w p, dist# w p))) (λ p. (row# w p, leaf_mark x r w (first_at x w k) p))
      (λ p. ap (λ v. (row# w p, v)) (sym (leaf-mark x r w (first# w k) p))) (rest# w k)
      ∙ map_each (λ p. (row# w p, leaf_mark x r w (first_at x w k) p)) (rest# w k))

  -- a node that is inner
  inner-by : (deep k b : ℕ) → k < nodes# w → inner w k ≡ true → ((g : Grove) → tree_at w deep k g ≡ fork_node w (deep - 1) k g)
      → node_marks x r w deep k b ≡ visit_at x r w k b (inner_opened x r w (deep - 1) b (child# w k))
  unfolding marks_in node_marks
  inner-by deep k b h i t =
      let ks : Grove = kids_at w (deep - 1) k in
      let ch : ℕ = child# w k in
      let K = (S.node k h).kids i in
      let f : first ks ≡ first# w k = kids-first w S (deep - 1) k h i in
      let fs : firsts ks ≡ map (first# w) (range ch (m# w)) = kids-firsts w S (deep - 1) ch (m# w) K.inside in
      let vis : ℕ → List ℕ → List (ℕ × ℕ) → List (ℕ × ℕ) = λ f o q. visit x r (x f) (reach# w k) b o q in
      let cs : List ℕ → List (ℕ × ℕ) = λ l. map (λ i. (i, by_distance x r i)) (rest l) in
      let us : ℕ → List (ℕ × ℕ) = λ y. marks_in x r (child_bound_lem b y) ks in
      let near : nearest_of x ks ≡ least_from x w ch =
      ap₂ (λ f l. least (x f) (map x l)) (f ∙ sym (ap (row# w) K.same)) fs ∙ ap (least (first_at x w ch)) (sym (map-map x (first# w) (range ch (m# w)))) in
      ap (marks_in x r (λ x R. b)) (t bare) ∙ append-nil (vis (first ks) (rest (rows_in ks)) (cs (firsts ks) ++ us (nearest_of x ks)))
      ∙ ap (λ (f : ℕ). vis f (rest (rows_in ks)) (cs (firsts ks) ++ us (nearest_of x ks))) f
      ∙ ap₂ (vis (first# w k)) (rest_rows (deep - 1) k h i)
      (ap₂ (λ a c. a ++ c)
      (ap cs fs ∙ ap (map (λ i. (i, by_distance x r i))) (rest_at (first# w) ch (m# w))
      ∙ sym (map-map (λ i. (i, by_distance x r i)) (first# w) (range (suc ch) (m# w - 1)))
      ∙ map_each (λ j. (first# w j, by_distance x r (first# w j))) (range (suc ch) (m# w - 1)))
      (ap us near ∙ kids-marks (child_bound_lem b (least_from x w ch)) (deep - 1) ch (m# w) K.inside))

  -- THE MARKS OF A LEAF, THOSE OF AN INNER NODE, and what holds of both
  pub node-leaf : (deep k b : ℕ) → k < nodes# w → inner w k ≡ false → node_marks x r w deep k b ≡ visit_at x r w k b (leaf_opened x r w k)
  node-leaf deep k b h e = leaf-by deep k b h (λ g. as-leaf w deep k g e)

  -- the marks of an inner node with a level left
  pub node-inner : (deep k b : ℕ) → k < nodes# w → 1 ≤ deep → inner w k ≡ true → node_marks x r w deep k b ≡ visit_at x r w k b (inner_opened x r w (deep - 1) b (child# w k))
  node-inner deep k b h l e = inner-by deep k b h e (λ g. tree-fork w deep k g l e)

  -- what holds of a node swept, closed and opened, however it is opened, holds of its marks
  pub node-any : (P : List (ℕ × ℕ) → Type 0) (deep k b : ℕ) → k < nodes# w → ((o : List (ℕ × ℕ)) → P (visit_at x r w k b o)) → P (node_marks x r w deep k b)
  node-any P deep k b h f =
      by-node w deep k (λ t. subst P (sym (leaf-by deep k b h t)) (f (leaf_opened x r w k)))
      (λ e t. subst P (sym (inner-by deep k b h e t)) (f (inner_opened x r w (deep - 1) b (child# w k))))
