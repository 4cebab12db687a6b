-- The items of a level: their nodes and the items of the level below, for one item more. Assumes nothing.
use Prim.Native.Nat.{◌+◌, ◌≤◌, suc, ℕ}
use Rattle.growing.specs.Levels.{Item, leaf_node, level_out_lem, next_level, parts, placed}
use Rattle.laws.proofs.Joins.{each_append}
use Rattle.tree.proofs.Grow.{split-length}
use Rattle.tree.specs.Build.{reach, split}
use Rattle.tree.specs.Encode.{Node}
use lib.Dec.{leb}
use lib.ListN.{length, length-append}
use mathlib.Core.Bool.{Bool, cond, false, true}
use mathlib.Core.List.{List, [], ◌++◌, ◌∷◌, append-nil}
use mathlib.Core.Path.{◌∙◌, ◌≡◌, ap, refl}
use native.Mathlib.Nat.{add-zero}
use native.Mathlib.Omega.{arith}

-- as many items as runs
pub placed_long : (s : ℕ) (rs : List (List ℕ)) → length (placed s rs) ≡ length rs
placed_long s [] = refl
placed_long s (r ∷ rs) = ap suc (placed_long (s + length r) rs)

-- ---- the level below
module _ (d : ℕ → ℕ → ℕ) (m l : ℕ) (done : List Item) (q : Item) where
  -- the last item's parts stand last
  next_last : next_level d m l (done ++ q ∷ []) ≡ next_level d m l done ++ parts d m l q
  next_last = each_append (parts d m l) done (q ∷ []) ∙ ap (λ (x : List Item). next_level d m l done ++ x) (append-nil (parts d m l q))

  -- an item of at most l rows has none
  pub next_small : leb (length q.1) l ≡ true → next_level d m l (done ++ q ∷ []) ≡ next_level d m l done
  next_small e =
      next_last ∙ ap (λ (b : Bool). next_level d m l done ++ cond b [] (placed q.0 (split d m q.1))) e ∙ append-nil (next_level d m l done)

  -- any other has its children's
  pub next-large : leb (length q.1) l ≡ false → next_level d m l (done ++ q ∷ []) ≡ next_level d m l done ++ placed q.0 (split d m q.1)
  next-large e = next_last ∙ ap (λ (b : Bool). next_level d m l done ++ cond b [] (placed q.0 (split d m q.1))) e

-- ---- the level's nodes
-- as many as items
pub out_long : (d : ℕ → ℕ → ℕ) (m l next : ℕ) (qs : List Item) → length (level_out_lem d m l next qs) ≡ length qs
unfolding level_out_lem
out_long d m l next [] = refl
out_long d m l next (q ∷ qs) = go (leb (length q.1) l) (λ k. out_long d m l k qs)
  where
    go : (b : Bool) → ((k : ℕ) → length (level_out_lem d m l k qs) ≡ length qs)
        → length (cond b (leaf_node d m l q ∷ level_out_lem d m l next qs) ((q.0, length q.1, next, reach d q.1) ∷ level_out_lem d m l (next + m) qs))
        ≡ suc (length qs)
    go true ih = ap suc (ih next)
    go false ih = ap suc (ih (next + m))

module _ (d : ℕ → ℕ → ℕ) (m l : ℕ) (m1 : 1 ≤ m) (ml : m ≤ l) where
  -- an item's node once it has children, the first of them `next`
  abbrev inner : ℕ → Item → Node
  inner next q = (q.0, length q.1, next, reach d q.1)

  -- of two stretches of items, the second numbers its children after the first's
  out_append : (next : ℕ) (ps qs : List Item)
      → level_out_lem d m l next (ps ++ qs) ≡ level_out_lem d m l next ps ++ level_out_lem d m l (next + length (next_level d m l ps)) qs
  unfolding level_out_lem
  out_append next [] qs = rw add-zero
  out_append next (p ∷ ps) qs = go (leb (length p.1) l) (λ k. out_append k ps qs)
    where
      go : (b : Bool) → ((k : ℕ) → level_out_lem d m l k (ps ++ qs) ≡ level_out_lem d m l k ps ++ level_out_lem d m l (k + length (next_level d m l ps)) qs)
          → cond b (leaf_node d m l p ∷ level_out_lem d m l next (ps ++ qs)) (inner next p ∷ level_out_lem d m l (next + m) (ps ++ qs))
          ≡ cond b (leaf_node d m l p ∷ level_out_lem d m l next ps) (inner next p ∷ level_out_lem d m l (next + m) ps)
          ++ level_out_lem d m l (next + length (cond b [] (placed p.0 (split d m p.1)) ++ next_level d m l ps)) qs
      go true ih = ap (λ (ns : List Node). leaf_node d m l p ∷ ns) (ih next)
      go false ih =
          let kids : List Item = placed p.0 (split d m p.1) in
          let k : next + m + length (next_level d m l ps) ≡ next + length (kids ++ next_level d m l ps) =
          omega (arith, length-append kids (next_level d m l ps), placed_long p.0 (split d m p.1), split-length d m l m1 ml p.1) in
          ap (λ (ns : List Node). inner next p ∷ ns)
          (ih (next + m) ∙ ap (λ (j : ℕ). level_out_lem d m l (next + m) ps ++ level_out_lem d m l j qs) k)

  module _ (next : ℕ) (done : List Item) (q : Item) where
    -- the last item's node is a leaf's or an inner node's
    out-last : (b : Bool) → leb (length q.1) l ≡ b
        → level_out_lem d m l next (done ++ q ∷ [])
        ≡ level_out_lem d m l next done ++ cond b (leaf_node d m l q ∷ []) (inner (next + length (next_level d m l done)) q ∷ [])
    unfolding level_out_lem
    out-last b e =
        let k : ℕ = next + length (next_level d m l done) in
        out_append next done (q ∷ []) ∙ ap (λ (b : Bool). level_out_lem d m l next done ++ cond b (leaf_node d m l q ∷ []) (inner k q ∷ [])) e

    -- an item of at most l rows is a leaf
    pub out-small : leb (length q.1) l ≡ true → level_out_lem d m l next (done ++ q ∷ []) ≡ level_out_lem d m l next done ++ leaf_node d m l q ∷ []
    out-small e = out-last true e

    -- any other has its first child's number
    pub out-large : leb (length q.1) l ≡ false
        → level_out_lem d m l next (done ++ q ∷ [])
        ≡ level_out_lem d m l next done ++ (q.0, length q.1, next + length (next_level d m l done), reach d q.1) ∷ []
    out-large e = out-last false e
