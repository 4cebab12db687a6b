-- The rows of an index in shape's tree: those of its positions, below n, and each at most once where none stands twice. Assumes nothing.
use Prim.Native.Nat.{◌+◌, ◌<◌, ◌≤◌, min, suc, zero, ℕ}
use Rattle.laws.proofs.Every.{every_map}
use Rattle.laws.proofs.Lists.{map-append, tally_append}
use Rattle.laws.proofs.Ranges.{at_every, range_append}
use Rattle.laws.proofs.Times.{lefts, not_any}
use Rattle.laws.specs.Every.{Every}
use Rattle.laws.specs.Lists.{any, range, times}
use Rattle.limits.specs.Limits.{max_depth}
use Rattle.tree.proofs.Full.{Full}
use Rattle.tree.proofs.Members.{entries_at, full_at, held}
use Rattle.tree.specs.Check.{again}
use Rattle.tree.specs.Grove.{Grove, bare, members#, rows_in, tree_at, tree_of}
use Rattle.words.specs.InShape.{InShape}
use Rattle.words.specs.Words.{nodes#, n#, row#}
use borrow.Author.Tests.{eqb-true}
use lib.Dec.{eqb}
use mathlib.Core.Bool.{Bool, cond, false, true}
use mathlib.Core.List.{List, [], ◌++◌, ◌∷◌, append-nil, foldr, map}
use mathlib.Core.Logic.{by_cases}
use mathlib.Core.Path.{◌∙◌, ◌≡◌, ap, ap₂, refl, subst, sym}
use native.Mathlib.Decide.{dec_lt}
use native.Mathlib.Nat.{zero-add}
use native.Mathlib.Omega.{arith}

-- ---- the tree, if there is a root, and if there is none
-- with a root it is the root's
tree_one : (w : List ℕ) → 1 ≤ nodes# w → tree_of w ≡ tree_at w max_depth 0 bare
unfolding tree_of
tree_one w h = let q : min (nodes# w) 1 ≡ 1 = omega arith in ap (λ k. foldr (tree_at w max_depth) bare (range 0 k)) q

-- with none it is bare
tree_none : (w : List ℕ) → nodes# w ≡ 0 → tree_of w ≡ bare
unfolding tree_of
tree_none w e = let q : min (nodes# w) 1 ≡ 0 = omega arith in ap (λ k. foldr (tree_at w max_depth) bare (range 0 k)) q

-- a fact of the tree is one of the root's, and one of none
pub by_root : (P : Grove → Type 0) (w : List ℕ) → (1 ≤ nodes# w → P (tree_at w max_depth 0 bare)) → (nodes# w ≡ 0 → P bare) → P (tree_of w)
by_root P w f z =
    by_cases (dec_lt 0 (nodes# w)) (λ h. subst P (sym (tree_one w h)) (f h))
    (λ h.
    let e : nodes# w ≡ 0 = omega arith in
    subst P (sym (tree_none w e)) (z e))

-- the rows that positions hold
rows_held : (w : List ℕ) (s n : ℕ) → lefts (held w s n) ≡ map (row# w) (range s n)
rows_held w s zero = refl
rows_held w s (suc n) = ap (λ l. row# w s ∷ l) (rows_held w (suc s) n)

-- ---- no row again, no row twice
-- among the first k positions no row stands twice
pub once_to : (w : List ℕ) → ((p : ℕ) → p < n# w → again w p ≡ false) → (k : ℕ) → k ≤ n# w → (i : ℕ) → times i (map (row# w) (range 0 k)) ≤ 1
unfolding again
once_to w f zero h i = omega arith
once_to w f (suc k) h i =
    let e : map (row# w) (range 0 (suc k)) ≡ map (row# w) (range 0 k) ++ row# w k ∷ [] =
    ap (map (row# w)) (ap (range 0) one_more ∙ range_append 0 k 1 ∙ ap (λ j. range 0 k ++ j ∷ []) (zero-add k))
    ∙ map-append (row# w) (range 0 k) (k ∷ []) in
    subst (λ l. times i l ≤ 1) (sym e) (rw tally_append (go (eqb i (row# w k)) refl (once_to w f k (omega arith) i)))
  where
    one_more : suc k ≡ k + 1
    one_more = omega arith

    go : (b : Bool) → eqb i (row# w k) ≡ b → times i (map (row# w) (range 0 k)) ≤ 1 → times i (map (row# w) (range 0 k)) + (cond b 1 0 + 0) ≤ 1
    go true q h' =
        omega (
          arith,
          not_any i (map (row# w) (range 0 k)) (subst (λ j. any (eqb j) (map (row# w) (range 0 k)) ≡ false)
              (sym (eqb-true i (row# w k) q)) (f k h)),
        )
    go false q h' = omega arith

module _ (w : List ℕ) (S : InShape w) where
  -- no leaf is empty and no inner node is childless
  pub full-tree : Full (tree_of w)
  full-tree = by_root Full w (λ h. full_at w S max_depth 0 bare h tt) (λ e. tt)

  -- THE TREE'S ROWS ARE THOSE OF THE POSITIONS
  pub rows-tree : rows_in (tree_of w) ≡ map (row# w) (range 0 (n# w))
  rows-tree =
      by_root (λ g. rows_in g ≡ map (row# w) (range 0 (n# w))) w
      (λ h.
      let r = S.root (omega (arith, S.whole.nodes)) in
      ap lefts (entries_at w S max_depth 0 bare h ∙ append-nil (members# w 0)) ∙ ap₂ (λ s c. lefts (held w s c)) r.start r.count
      ∙ rows_held w 0 (n# w))
      (λ e. ap (λ n. map (row# w) (range 0 n)) (empty (n# w) (λ h. omega (arith, (S.root h).there))))
    where
      empty : (n : ℕ) → (1 ≤ n → ⊥) → 0 ≡ n
      empty zero f = refl
      empty (suc n) f = absurd (f (omega arith))

  -- its rows are below n
  pub rows-low : Every (λ i. i < n# w) (rows_in (tree_of w))
  rows-low =
      subst (Every (λ i. i < n# w)) (sym rows-tree)
      (every_map (λ i. i < n# w) (row# w) (range 0 (n# w)) (at_every (λ p. row# w p < n# w) (n# w) (λ p q. (S.place p q).row)))

  -- and none stands twice, where no position holds one again
  pub rows-once : ((p : ℕ) → p < n# w → again w p ≡ false) → (i : ℕ) → times i (rows_in (tree_of w)) ≤ 1
  rows-once f i = subst (λ l. times i l ≤ 1) (sym rows-tree) (once_to w f (n# w) (omega arith) i)
