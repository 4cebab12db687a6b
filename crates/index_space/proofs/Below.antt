-- The home bounds below a node, added up by any weight: in a leaf over its positions; in an inner node over its centres but the first, and
-- below its children. Assumes nothing.
use Prim.Native.Nat.{◌+◌, ◌-◌, ◌<◌, ◌≤◌, min, suc, zero, ℕ}
use Rattle.index_space.proofs.Leasts.{least_all}
use Rattle.index_space.specs.Items.{least_to, place_bound}
use Rattle.laws.proofs.Bags.{total-append, total-map, total_range}
use Rattle.laws.proofs.Sums.{sum_below-same, sum_from, sum_none}
use Rattle.laws.specs.Bags.{total}
use Rattle.laws.specs.Lists.{head, range, rest}
use Rattle.laws.specs.Upto.{sum_to}
use Rattle.limits.specs.Limits.{max_depth}
use Rattle.tree.proofs.Forks.{as-fork, as-leaf, fork_node, kids-first, kids_at, leaf_node, no-levels}
use Rattle.tree.proofs.Members.{kids-firsts, run-first}
use Rattle.tree.specs.Grove.{Grove, Reach, bare, first, firsts, fork, leaf, members#, reach#, tree_at}
use Rattle.tree.specs.Homes.{child_bound_lem, homes_in, nearest_of, row_bound}
use Rattle.words.proofs.InShape.{left_root}
use Rattle.words.specs.InShape.{InShape, Kids, Left}
use Rattle.words.specs.Shape.{inner}
use Rattle.words.specs.Words.{nodes#, child#, count#, dist#, first#, m#, row#, start#}
use mathlib.Core.Bool.{Bool, false, true}
use mathlib.Core.List.{List, ◌++◌, foldr, map}
use mathlib.Core.Path.{◌∙◌, ◌≡◌, ap, ap₂, refl, subst, sym}
use native.Mathlib.Nat.{add-suc, add-zero, suc-add}
use native.Mathlib.Omega.{arith}

-- a total over a range but its first, as a sum
total_rest : {B : Type 0} (f : B → ℕ) (g : ℕ → B) (j k : ℕ) → total f (rest (map g (range j k))) ≡ sum_to (λ (i : ℕ). f (g (j + suc i))) (k - 1)
total_rest f g j zero = sym (sum_none (λ (i : ℕ). f (g (j + suc i))))
total_rest f g j (suc k) =
    let next : (i : ℕ) → suc j + i ≡ j + suc i = λ i. omega arith in
    let less : k ≡ suc k - 1 = omega arith in
    total-map f g (range (suc j) k) ∙ total_range (λ (i : ℕ). f (g i)) (suc j) k
    ∙ sum_below-same (λ (i : ℕ). f (g (suc j + i))) (λ (i : ℕ). f (g (j + suc i))) k (λ i l. ap (λ (z : ℕ). f (g z)) (next i))
    ∙ ap (sum_to (λ (i : ℕ). f (g (j + suc i)))) less

-- ---- the homes of nodes side by side
module _ (x : ℕ → ℕ) (f : ℕ × ℕ → ℕ) where
  -- where there is no node there is no home
  bare-total : (β : ℕ → Reach → ℕ) → total f (homes_in x β bare) ≡ 0
  unfolding homes_in
  bare-total β = refl

  -- a leaf and those after it: its rows but the first, each under its own bound, and theirs
  leaf-total : (β : ℕ → Reach → ℕ) (R : Reach) (es : List (ℕ × ℕ)) (g : Grove) → total f (homes_in x β (leaf R es g))
      ≡ total f (map (λ e. (e.0, row_bound x (β (x (head (map (λ e. e.0) es))) R) (head (map (λ e. e.0) es)) e)) (rest es))
      + total f (homes_in x β g)
  unfolding homes_in
  leaf-total β R es g =
      total-append f (map (λ e. (e.0, row_bound x (β (x (head (map (λ e. e.0) es))) R) (head (map (λ e. e.0) es)) e)) (rest es)) (homes_in x β g)

  -- an inner node and those after it: its centres but the first under its own bound, what is below its children, and theirs
  fork-total : (β : ℕ → Reach → ℕ) (R : Reach) (ks g : Grove) → total f (homes_in x β (fork R ks g))
      ≡ total f (map (λ r. (r, β (x (first ks)) R)) (rest (firsts ks))) + total f (homes_in x (child_bound_lem (β (x (first ks)) R) (nearest_of x ks)) ks)
      + total f (homes_in x β g)
  unfolding homes_in
  fork-total β R ks g =
      let a : List (ℕ × ℕ) = map (λ r. (r, β (x (first ks)) R)) (rest (firsts ks)) in
      let b : List (ℕ × ℕ) = homes_in x (child_bound_lem (β (x (first ks)) R) (nearest_of x ks)) ks in
      omega (arith, total-append f (a ++ b) (homes_in x β g), total-append f a b)

  -- a leaf, and those after it: the leaf stands alone under the bound that it has
  leaf-alone : (β : ℕ → Reach → ℕ) (R : Reach) (es : List (ℕ × ℕ)) (g : Grove) → total f (homes_in x β (leaf R es g))
      ≡ total f (homes_in x (λ u v. β (x (head (map (λ e. e.0) es))) R) (leaf R es bare)) + total f (homes_in x β g)
  leaf-alone β R es g =
      let γ : ℕ → Reach → ℕ = λ u v. β (x (head (map (λ e. e.0) es))) R in
      omega (arith, leaf-total β R es g, leaf-total γ R es bare, bare-total γ)

  -- an inner node, and those after it: it stands alone under the bound that it has
  fork-alone : (β : ℕ → Reach → ℕ) (R : Reach) (ks g : Grove)
      → total f (homes_in x β (fork R ks g)) ≡ total f (homes_in x (λ u v. β (x (first ks)) R) (fork R ks bare)) + total f (homes_in x β g)
  fork-alone β R ks g =
      let γ : ℕ → Reach → ℕ = λ u v. β (x (first ks)) R in
      omega (arith, fork-total β R ks g, fork-total γ R ks bare, bare-total γ)

-- ---- node k as a grove
module _ (w : List ℕ) where
  -- nodes side by side, by two readings that agree at each
  fold_same : (t u : ℕ → Grove → Grove) (j m : ℕ) → ((i : ℕ) (g : Grove) → i < m → t (j + i) g ≡ u (j + i) g)
      → foldr t bare (range j m) ≡ foldr u bare (range j m)
  fold_same t u j zero h = refl
  fold_same t u j (suc m) h =
      ap (t j) (fold_same t u (suc j) m (λ i g l. subst (λ (z : ℕ). t z g ≡ u z g) (add-suc j i ∙ sym (suc-add j i)) (h (suc i) g (omega arith))))
      ∙ subst (λ (z : ℕ). t z (foldr u bare (range (suc j) m)) ≡ u z (foldr u bare (range (suc j) m))) (add-zero j)
      (h 0 (foldr u bare (range (suc j) m)) (omega arith))

  module _ (S : InShape w) where
    -- A NODE WITH AT MOST `deep` LEVELS BELOW IT IS THE SAME WITH ONE MORE
    tree-deeper : (deep k : ℕ) (g : Grove) → k < nodes# w → Left w deep k → tree_at w deep k g ≡ tree_at w (suc deep) k g
    tree-deeper zero k g h l = no-levels w k g ∙ sym (as-leaf w 1 k g ((S.node k h).bottom l))
    tree-deeper (suc deep) k g h l = go (λ j f q m. tree-deeper deep j f q m) (inner w k) refl
      where
        go : ((j : ℕ) (f : Grove) → j < nodes# w → Left w deep j → tree_at w deep j f ≡ tree_at w (suc deep) j f)
            → (b : Bool) → inner w k ≡ b → tree_at w (suc deep) k g ≡ tree_at w (suc (suc deep)) k g
        go ih true e =
            let K : Kids w k = (S.node k h).kids e in
            let z : suc deep - 1 ≡ deep = omega arith in
            as-fork w deep k g e
            ∙ ap (λ (ks : Grove). fork (reach# w k) ks g)
            (fold_same (tree_at w deep) (tree_at w (suc deep)) (child# w k) (m# w)
            (λ i f q. ih (child# w k + i) f (omega (arith, K.inside)) (subst (λ (d : ℕ). Left w d (child# w k + i)) z (K.down (suc deep) i l))))
            ∙ sym (as-fork w (suc deep) k g e)
        go ih false e = as-leaf w (suc deep) k g e ∙ sym (as-leaf w (suc (suc deep)) k g e)

  module _ (x : ℕ → ℕ) where
    -- the least distance over the centres of node k
    abbrev pub nearest_to : ℕ → ℕ
    nearest_to k = least_to (λ (i : ℕ). x (first# w (child# w k + i))) (m# w - 1)

    -- the bound of its i-th child, its own being b
    abbrev pub kid_bound : ℕ → ℕ → ℕ → ℕ
    kid_bound k b i = child_bound_lem b (nearest_to k) (x (first# w (child# w k + i))) (reach# w (child# w k + i))

  module _ (x : ℕ → ℕ) (f : ℕ × ℕ → ℕ) where
    -- the rows at home below node k, whose bound is b, by their weight, where it is read as at most `deep` levels
    below_at : ℕ → ℕ → ℕ → ℕ
    below_at deep k b = total f (homes_in x (λ u v. b) (tree_at w deep k bare))

    -- the same, read to the depth that an index can have
    unfoldable pub below : ℕ → ℕ → ℕ
    below k b = total f (homes_in x (λ u v. b) (tree_at w max_depth k bare))

    module _ (S : InShape w) where
      -- A NODE'S PART OF THE TOTAL: what is below it under the bound that it has
      node-total : (deep k : ℕ) (β : ℕ → Reach → ℕ) (g : Grove) → k < nodes# w
          → total f (homes_in x β (tree_at w deep k g)) ≡ below_at deep k (β (x (first# w k)) (reach# w k)) + total f (homes_in x β g)
      unfolding below_at
      node-total deep k β g h = go deep
        where
          by-leaf : (deep : ℕ) → ((g : Grove) → tree_at w deep k g ≡ leaf_node w k g)
              → total f (homes_in x β (tree_at w deep k g)) ≡ below_at deep k (β (x (first# w k)) (reach# w k)) + total f (homes_in x β g)
          by-leaf deep e =
              ap (λ (t : Grove). total f (homes_in x β t)) (e g) ∙ leaf-alone x f β (reach# w k) (members# w k) g
              ∙ ap (λ (z : ℕ). z + total f (homes_in x β g))
              (ap (λ (i : ℕ). total f (homes_in x (λ u v. β (x i) (reach# w k)) (leaf_node w k bare)))
              (run-first w S (start# w k) (count# w k) (S.node k h).some)
              ∙ ap (λ (t : Grove). total f (homes_in x (λ u v. β (x (first# w k)) (reach# w k)) t)) (sym (e bare)))

          by-fork : (deep : ℕ) → inner w k ≡ true
              → total f (homes_in x β (tree_at w (suc deep) k g)) ≡ below_at (suc deep) k (β (x (first# w k)) (reach# w k)) + total f (homes_in x β g)
          by-fork deep e =
              ap (λ (t : Grove). total f (homes_in x β t)) (as-fork w deep k g e) ∙ fork-alone x f β (reach# w k) (kids_at w deep k) g
              ∙ ap (λ (z : ℕ). z + total f (homes_in x β g))
              (ap (λ (i : ℕ). total f (homes_in x (λ u v. β (x i) (reach# w k)) (fork_node w deep k bare))) (kids-first w S deep k h e)
              ∙ ap (λ (t : Grove). total f (homes_in x (λ u v. β (x (first# w k)) (reach# w k)) t)) (sym (as-fork w deep k bare e)))

          at : (deep : ℕ) (b : Bool) → inner w k ≡ b
              → total f (homes_in x β (tree_at w (suc deep) k g)) ≡ below_at (suc deep) k (β (x (first# w k)) (reach# w k)) + total f (homes_in x β g)
          at deep true e = by-fork deep e
          at deep false e = by-leaf (suc deep) (λ g. as-leaf w (suc deep) k g e)

          go : (deep : ℕ) → total f (homes_in x β (tree_at w deep k g)) ≡ below_at deep k (β (x (first# w k)) (reach# w k)) + total f (homes_in x β g)
          go zero = by-leaf zero (no-levels w k)
          go (suc deep) = at deep (inner w k) refl

      -- nodes side by side: what is below each under the bound that it has
      kids-total : (deep j m : ℕ) (β : ℕ → Reach → ℕ) → j + m ≤ nodes# w → total f (homes_in x β (foldr (tree_at w deep) bare (range j m)))
          ≡ sum_to (λ (i : ℕ). below_at deep (j + i) (β (x (first# w (j + i))) (reach# w (j + i)))) m
      unfolding sum_to
      kids-total deep j zero β h = bare-total x f β
      kids-total deep j (suc m) β h =
          omega (
            arith,
            node-total deep j β (foldr (tree_at w deep) bare (range (suc j) m)) (omega arith),
            kids-total deep (suc j) m β (omega arith),
            sum_from (λ (k : ℕ). below_at deep k (β (x (first# w k)) (reach# w k))) j m,
          )

      -- BELOW A LEAF: its rows but the first, each under its own bound
      pub leaf-below : (k b : ℕ) → k < nodes# w → inner w k ≡ false
          → below k b ≡ sum_to (λ (i : ℕ). f (row# w (start# w k + suc i), place_bound w b (x (first# w k)) (start# w k + suc i))) (count# w k - 1)
      unfolding below
      leaf-below k b h e =
          let home : ℕ → ℕ × ℕ → ℕ × ℕ = λ i e. (e.0, row_bound x b i e) in
          let es : List (ℕ × ℕ) = members# w k in
          ap (λ (t : Grove). total f (homes_in x (λ u v. b) t)) (as-leaf w max_depth k bare e) ∙ leaf-total x f (λ u v. b) (reach# w k) es bare
          ∙ ap₂ (λ (a c : ℕ). a + c)
          (ap (λ (i : ℕ). total f (map (home i) (rest es))) (run-first w S (start# w k) (count# w k) (S.node k h).some)
          ∙ total-map f (home (first# w k)) (rest es)
          ∙ total_rest (λ (e : ℕ × ℕ). f (home (first# w k) e)) (λ (p : ℕ). (row# w p, dist# w p)) (start# w k) (count# w k))
          (bare-total x f (λ u v. b))
          ∙ omega arith

      -- the least distance over the centres of node k, as the tree has it
      nearest-kids : (deep k : ℕ) → k < nodes# w → inner w k ≡ true → nearest_of x (kids_at w deep k) ≡ nearest_to x k
      nearest-kids deep k h e =
          ap (λ (l : List ℕ). foldr min (x (head l)) (map x l)) (kids-firsts w S deep (child# w k) (m# w) ((S.node k h).kids e).inside)
          ∙ least_all x (first# w) (child# w k) (m# w) (omega (arith, S.whole.fan.0))

      -- a child's part is the same read a level lower: 23 is one level less than an index can have
      same-below : (k j b : ℕ) → k < nodes# w → inner w k ≡ true → j < m# w → below_at 23 (child# w k + j) b ≡ below (child# w k + j) b
      unfolding below_at below
      same-below k j b h e l =
          let K : Kids w k = (S.node k h).kids e in
          ap (λ (t : Grove). total f (homes_in x (λ u v. b) t))
          (tree-deeper S 23 (child# w k + j) bare (omega (arith, K.inside)) (K.down max_depth j (all-levels k)))
        where
          all-levels : (k : ℕ) → Left w max_depth k
          all-levels k = (omega arith, omega (arith, (left_root w).1))

      -- below an inner node: its centres but the first under its own bound, and what is below its children, read a level lower
      fork-parts : (k b : ℕ) → k < nodes# w → inner w k ≡ true
          → below k b
          ≡ sum_to (λ (i : ℕ). f (first# w (child# w k + suc i), b)) (m# w - 1)
          + sum_to (λ (i : ℕ). below_at 23 (child# w k + i) (kid_bound x k b i)) (m# w)
      unfolding below
      fork-parts k b h e =
          ap (λ (t : Grove). total f (homes_in x (λ u v. b) t)) (as-fork w 23 k bare e) ∙ fork-total x f (λ u v. b) (reach# w k) (kids_at w 23 k) bare
          ∙ ap₂ (λ (a c : ℕ). a + c) (ap₂ (λ (a c : ℕ). a + c) centres kids) (bare-total x f (λ u v. b))
          ∙ omega arith
        where
          within : child# w k + m# w ≤ nodes# w
          within = ((S.node k h).kids e).inside

          centres : total f (map (λ (r : ℕ). (r, b)) (rest (firsts (kids_at w 23 k))))
              ≡ sum_to (λ (i : ℕ). f (first# w (child# w k + suc i), b)) (m# w - 1)
          centres =
              ap (λ (l : List ℕ). total f (map (λ (r : ℕ). (r, b)) (rest l))) (kids-firsts w S 23 (child# w k) (m# w) within)
              ∙ total-map f (λ (r : ℕ). (r, b)) (rest (map (first# w) (range (child# w k) (m# w))))
              ∙ total_rest (λ (r : ℕ). f (r, b)) (first# w) (child# w k) (m# w)

          kids : total f (homes_in x (child_bound_lem b (nearest_of x (kids_at w 23 k))) (kids_at w 23 k))
              ≡ sum_to (λ (i : ℕ). below_at 23 (child# w k + i) (kid_bound x k b i)) (m# w)
          kids =
              ap (λ (y : ℕ). total f (homes_in x (child_bound_lem b y) (kids_at w 23 k))) (nearest-kids 23 k h e)
              ∙ kids-total 23 (child# w k) (m# w) (child_bound_lem b (nearest_to x k)) within

      -- BELOW AN INNER NODE: its centres but the first under its own bound, and what is below its children under theirs
      pub fork-below : (k b : ℕ) → k < nodes# w → inner w k ≡ true → below k b
          ≡ sum_to (λ (i : ℕ). f (first# w (child# w k + suc i), b)) (m# w - 1) + sum_to (λ (i : ℕ). below (child# w k + i) (kid_bound x k b i)) (m# w)
      fork-below k b h e =
          fork-parts k b h e
          ∙ ap (λ (z : ℕ). sum_to (λ (i : ℕ). f (first# w (child# w k + suc i), b)) (m# w - 1) + z)
          (sum_below-same (λ (i : ℕ). below_at 23 (child# w k + i) (kid_bound x k b i)) (λ (i : ℕ). below (child# w k + i) (kid_bound x k b i)) (m# w)
          (λ i l. same-below k i (kid_bound x k b i) h e l))
