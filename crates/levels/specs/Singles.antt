-- A tree level by level: the nodes of a level as single ones, each where it stands. A working notion, on which no promise rests. Assumes nothing.
use Rattle.std.specs.Prelude.{◌+◌, suc, zero, ℕ, length, List, [], ◌++◌, ◌∷◌}
use Rattle.laws.specs.Lists.{each}
use Rattle.tree.specs.Encode.{Node}
use Rattle.tree.specs.Grove.{Grove, bare, entries, fork, leaf, reaching}

-- a node by itself, with what is below it, and the position where it starts
abbrev pub Single : Type 0
Single = ℕ × Grove

-- nodes side by side from position s on, each by itself
unfoldable pub singles : ℕ → Grove → List Single
singles s bare = []
singles s (leaf R es g) = (s, leaf R es bare) ∷ singles (s + length es) g
singles s (fork R ks g) = (s, fork R ks bare) ∷ singles (s + length (entries ks)) g

-- the children of a node
abbrev pub kids_of : ℕ → Grove → List Single
kids_of s bare = []
kids_of s (leaf R es g) = []
kids_of s (fork R ks g) = singles s ks

-- a node's words; `next` is the number of its first child, if it has one
abbrev pub words_at : ℕ → ℕ → Grove → Node
words_at next s bare = (s, 0, 0, reaching 0 0)
words_at next s (leaf R es g) = (s, length es, 0, R)
words_at next s (fork R ks g) = (s, length (entries ks), next, R)

-- the nodes of a level; `next` is the number of its first child
unfoldable pub level_of : ℕ → List Single → List Node
level_of next [] = []
level_of next (q ∷ qs) = words_at next q.0 q.1 ∷ level_of (next + length (kids_of q.0 q.1)) qs

-- the level below
abbrev pub lower : List Single → List Single
lower qs = each (λ q. kids_of q.0 q.1) qs

-- the nodes of a level and of those below it
unfoldable pub levels_of : ℕ → ℕ → List Single → List Node
levels_of zero next qs = level_of next qs
levels_of (suc deep) next qs = level_of next qs ++ levels_of deep (next + length (lower qs)) (lower qs)
