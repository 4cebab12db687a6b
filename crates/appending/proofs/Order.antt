-- The groups of a tree that takes one row more: all but one stay as they are, in their order. Assumes nothing.
use Prim.Native.Nat.{◌+◌, ◌<◌, ◌≤◌, suc, zero, ℕ}
use Rattle.appending.proofs.Lodge.{ordered, with_last}
use Rattle.appending.proofs.Lowest.{lowest_there}
use Rattle.appending.proofs.Nodes.{Made, Once, made-after-fork, made-after-leaf, made-kids, once_after_fork, once_after_leaf, once_kids}
use Rattle.appending.proofs.Onesplit.{lodge-split, lodge-stays}
use Rattle.appending.specs.Append.{join, lodge, lowest_at, reach_with}
use Rattle.appending.specs.Groups.{Group, group_of, groups}
use Rattle.laws.proofs.Joins.{each_append}
use Rattle.laws.proofs.Times.{lefts}
use Rattle.laws.specs.Lists.{each, head}
use Rattle.limits.specs.Limits.{max_depth}
use Rattle.tree.specs.Build.{leaf_of, reach, split}
use Rattle.tree.specs.Encode.{span}
use Rattle.tree.specs.Grove.{Grove, Reach, bare, entries, firsts, fork, leaf}
use borrow.Author.Tests.{leb-false, ne_eqb}
use lib.Dec.{T, eqb, leb, leb→le}
use lib.ListN.{length, length-map}
use mathlib.Core.Bool.{Bool, ◌||◌, false, or-false, or-true, true}
use mathlib.Core.List.{List, [], ◌++◌, ◌∷◌, append_assoc, foldr, map}
use mathlib.Core.Path.{◌∙◌, ◌≡◌, ap, ap₂, refl, subst, sym}
use native.Mathlib.Nat.{add-suc, not-suc-le-zero, suc-add}
use native.Mathlib.Omega.{arith}

-- the members of some groups, one group after the other
abbrev pub together : List Group → List (ℕ × ℕ)
together gs = each (λ q. q.1) gs

-- the members of a tree are those of its groups
pub groups-entries : (dep : ℕ) (g : Grove) → together (groups dep g) ≡ entries g
unfolding groups
groups-entries dep bare = refl
groups-entries dep (leaf R es g) = ap (λ (x : List (ℕ × ℕ)). es ++ x) (groups-entries dep g)
groups-entries dep (fork R ks g) =
    each_append (λ q. q.1) (groups (suc dep) ks) (groups dep g)
    ∙ ap₂ (λ (x y : List (ℕ × ℕ)). x ++ y) (groups-entries (suc dep) ks) (groups-entries dep g)

-- the groups of leaves side by side are their runs'
leaves_groups : (d : ℕ → ℕ → ℕ) (dep : ℕ) (gs : List (List ℕ)) → groups dep (foldr (leaf_of d) bare gs) ≡ map (group_of d dep) gs
unfolding groups
leaves_groups d dep [] = refl
leaves_groups d dep (q ∷ gs) = ap (λ (x : List Group). group_of d dep q ∷ x) (leaves_groups d dep gs)

module _ (d : ℕ → ℕ → ℕ) (m l z : ℕ) where
  -- the group es with the row z last
  abbrev pub longest : List (ℕ × ℕ) → List (ℕ × ℕ)
  longest es = es ++ (z, d (head (lefts es)) z) ∷ []

  -- the groups of nodes g at depth dep, and of g' that have the row z too: one group makes way for others. Where it has fewer than l rows, or
  -- stands at depth 24, the row stands last in it; else it is split by the build's rule, its rows put in order before
  pub record Order (dep : ℕ) (g g' : Grove) : Type 0 where
    pub before : List Group
    pub depth : ℕ
    pub old : List (ℕ × ℕ)
    pub behind : List Group
    pub new : List Group
    pub was : groups dep g ≡ before ++ (depth, old) ∷ behind
    pub is : groups dep g' ≡ before ++ (new ++ behind)
    pub room : length old < l → new ≡ (depth, longest old) ∷ []
    pub deepest : depth ≡ max_depth → new ≡ (depth, longest old) ∷ []
    pub parts : depth < max_depth → l ≤ length old → new ≡ map (group_of d (suc depth)) (split d m (ordered z old))

  -- the leaf that takes it and stays one
  order-stays : (dep : ℕ) (R : Reach) (es : List (ℕ × ℕ)) (g : Grove) → (dep < max_depth → length es < l)
      → Order dep (leaf R es g) (with_last d m l z R es g)
  unfolding groups
  order-stays dep R es g f =
      record {
        before = [];
        depth = dep;
        old = es;
        behind = groups dep g;
        new = (dep, longest es) ∷ [];
        was = refl;
        is = refl;
        room = λ h. refl;
        deepest = λ h. refl;
        parts = λ h k. absurd (omega (arith, f h));
      }

  -- the leaf that takes it and is split
  order-split : (dep : ℕ) (R : Reach) (es : List (ℕ × ℕ)) (g : Grove) → dep < max_depth → l ≤ length es
      → Order dep (leaf R es g) (fork (reach d (ordered z es)) (foldr (leaf_of d) bare (split d m (ordered z es))) g)
  unfolding groups
  order-split dep R es g h k =
      let gs : List (List ℕ) = split d m (ordered z es) in
      record {
        before = [];
        depth = dep;
        old = es;
        behind = groups dep g;
        new = map (group_of d (suc dep)) gs;
        was = refl;
        is = ap (λ (x : List Group). x ++ groups dep g) (leaves_groups d (suc dep) gs);
        room = λ q. absurd (omega arith);
        deepest = λ q. absurd (omega arith);
        parts = λ p q. refl;
      }

  -- groups before
  order-after : (dep : ℕ) (ls : List Group) (g g' h h' : Grove) → groups dep h ≡ ls ++ groups dep g → groups dep h' ≡ ls ++ groups dep g'
      → Order dep g g' → Order dep h h'
  order-after dep ls g g' h h' p q O =
      record {
        before = ls ++ O.before;
        depth = O.depth;
        old = O.old;
        behind = O.behind;
        new = O.new;
        was = p ∙ ap (λ (x : List Group). ls ++ x) O.was ∙ sym (append_assoc ls O.before ((O.depth, O.old) ∷ O.behind));
        is = q ∙ ap (λ (x : List Group). ls ++ x) O.is ∙ sym (append_assoc ls O.before (O.new ++ O.behind));
        room = O.room;
        deepest = O.deepest;
        parts = O.parts;
      }

  -- groups behind
  order-into : (dep : ℕ) (R R' : Reach) (ks ks' g : Grove) → Order (suc dep) ks ks' → Order dep (fork R ks g) (fork R' ks' g)
  unfolding groups
  order-into dep R R' ks ks' g O =
      let ls : List Group = groups dep g in
      record {
        before = O.before;
        depth = O.depth;
        old = O.old;
        behind = O.behind ++ ls;
        new = O.new;
        was = ap (λ (x : List Group). x ++ ls) O.was ∙ append_assoc O.before ((O.depth, O.old) ∷ O.behind) ls;
        is = ap (λ (x : List Group). x ++ ls) O.is ∙ append_assoc O.before (O.new ++ O.behind) ls
            ∙ ap (λ (x : List Group). O.before ++ x) (append_assoc O.new O.behind ls);
        room = O.room;
        deepest = O.deepest;
        parts = O.parts;
      }

  -- ---- with two children or more, and leaves of as many rows
  module _ (m2 : 2 ≤ m) (ml : m ≤ l) where
    -- the leaf that takes it
    order-leaf : (dep deep : ℕ) (R : Reach) (es : List (ℕ × ℕ)) (g : Grove) → dep + deep ≡ max_depth → Made d m l deep (leaf R es g)
        → Once z (leaf R es g) → Order dep (leaf R es g) (lodge d m l z deep R es g)
    order-leaf dep zero R es g e M o =
        subst (Order dep (leaf R es g)) (sym (lodge-stays d m l m2 ml z 0 R es g M o (or-true (leb (length es + 1) l))))
        (order-stays dep R es g (λ h. absurd (omega arith)))
    order-leaf dep (suc deep) R es g e M o = go (leb (length es + 1) l) refl
      where
        no : eqb (suc deep) 0 ≡ false
        no = ne_eqb (suc deep) 0 (λ q. omega arith)

        go : (b : Bool) → leb (length es + 1) l ≡ b → Order dep (leaf R es g) (lodge d m l z (suc deep) R es g)
        go true q =
            subst (Order dep (leaf R es g)) (sym (lodge-stays d m l m2 ml z (suc deep) R es g M o (ap (λ (b : Bool). b || eqb (suc deep) 0) q)))
            (order-stays dep R es g (λ h. omega (arith, leb→le (length es + 1) l (subst T (sym q) tt))))
        go false q =
            let few : length es ≤ l =
            leb→le (length es) l (subst T (or-false (leb (length es) l)) (subst (λ (b : Bool). T (leb (length es) l || b)) no M.fine.2)) in
            let n : length es ≡ l = omega (arith, leb-false (length es + 1) l q) in
            subst (Order dep (leaf R es g)) (sym (lodge-split d m l m2 ml z deep R es g M o n)) (order-split dep R es g (omega arith) (omega arith))

    -- ALL GROUPS BUT ONE STAY AS THEY ARE, IN THEIR ORDER
    pub join-order : (dep deep k : ℕ) (g : Grove) → dep + deep ≡ max_depth → Made d m l deep g → Once z g → k < span g
        → Order dep g (join d m l z deep k g)
    unfolding join groups
    join-order dep deep k bare e M o h = absurd (not-suc-le-zero h)
    join-order dep deep zero (leaf R es g) e M o h = order-leaf dep deep R es g e M o
    join-order dep deep (suc k) (leaf R es g) e M o h =
        order-after dep ((dep, es) ∷ []) g (join d m l z deep k g) (leaf R es g) (leaf R es (join d m l z deep k g)) refl refl
        (join-order dep deep k g e (made-after-leaf M) (once_after_leaf z R es g o) (omega arith))
    join-order dep zero zero (fork R ks g) e M o h = absurd M.fine
    join-order dep (suc deep) zero (fork R ks g) e M o h =
        let xs : List ℕ = map (λ c. d c z) (firsts ks) in
        let n : length xs ≡ length (firsts ks) = length-map (firsts ks) (λ c. d c z) in
        order-into dep R (reach_with (length (entries ks)) R (d (head (firsts ks)) z)) ks (join d m l z deep (lowest_at xs) ks) g
        (join-order (suc dep) deep (lowest_at xs) ks (suc-add dep deep ∙ sym (add-suc dep deep) ∙ e) (made-kids M) (once_kids z R ks g o)
        (omega (arith, M.full.0, lowest_there xs (omega (arith, M.full.0)))))
    join-order dep zero (suc k) (fork R ks g) e M o h = absurd M.fine
    join-order dep (suc deep) (suc k) (fork R ks g) e M o h =
        order-after dep (groups (suc dep) ks) g (join d m l z (suc deep) k g) (fork R ks g) (fork R ks (join d m l z (suc deep) k g)) refl refl
        (join-order dep (suc deep) k g e (made-after-fork M) (once_after_fork z R ks g o) (omega arith))
