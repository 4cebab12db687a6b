-- The tree level by level, as the code makes it: rows of runs, each where it stands. A working notion, on which no promise rests. Assumes nothing.
use Rattle.std.specs.Prelude.{◌+◌, ◌<◌, ◌≤◌, suc, zero, ℕ, leb, length, Bool, cond, not, List, [], ◌++◌, ◌∷◌, map}
use Rattle.laws.specs.Lists.{each, times}
use Rattle.tree.specs.Build.{reach, split}
use Rattle.tree.specs.Encode.{Node}

-- a run, and the position where it starts
abbrev pub Item : Type 0
Item = ℕ × List ℕ

-- runs that follow each other from position s on
abbrev pub placed : ℕ → List (List ℕ) → List Item
placed s [] = []
placed s (r ∷ rs) = (s, r) ∷ placed (s + length r) rs

-- a run that can be opened: not empty, and no row twice where it has more than l rows
abbrev pub Able : ℕ → List ℕ → Type 0
Able l r = (1 ≤ length r) × (l < length r → (i : ℕ) → times i r ≤ 1)

-- more than l rows: the item waits to be split, where a level is left
abbrev pub waits : ℕ → Item → Bool
waits l q = not (leb (length q.1) l)

module _ (d : ℕ → ℕ → ℕ) (m l : ℕ) where
  -- an item's node while it has no children
  abbrev pub leaf_node : Item → Node
  leaf_node q = (q.0, length q.1, 0, reach d q.1)

  -- the items that an item is split into: none where it stays a leaf
  abbrev pub parts : Item → List Item
  parts q = cond (leb (length q.1) l) [] (placed q.0 (split d m q.1))

  -- the runs that a run leaves one level down: itself where it stays a leaf
  abbrev pub opened : List ℕ → List (List ℕ)
  opened run = cond (leb (length run) l) (run ∷ []) (split d m run)

  -- the nodes of a level; `next` is the number of its first child
  unfoldable pub level_out_lem : ℕ → List Item → List Node
  level_out_lem next [] = []
  level_out_lem next (q ∷ qs) =
      let stays : List Node = leaf_node q ∷ level_out_lem next qs in
      let splits : List Node = (q.0, length q.1, next, reach d q.1) ∷ level_out_lem (next + m) qs in
      cond (leb (length q.1) l) stays splits

  -- the items of the level below
  abbrev pub next_level : List Item → List Item
  next_level qs = each parts qs

  -- the nodes of a level and of the `deep` levels below it
  unfoldable pub all_nodes : ℕ → ℕ → List Item → List Node
  all_nodes zero next qs = map leaf_node qs
  all_nodes (suc deep) next qs = level_out_lem next qs ++ all_nodes deep (next + length (next_level qs)) (next_level qs)

  -- the runs of the leaves under a run with `deep` levels below it, in the order of positions
  unfoldable pub leaves : ℕ → List ℕ → List (List ℕ)
  leaves zero run = run ∷ []
  leaves (suc deep) run = let inner : List (List ℕ) = each (leaves deep) (split d m run) in cond (leb (length run) l) (run ∷ []) inner
