-- The tree behind an index: 01, The tree. Assumes nothing.
use Rattle.std.specs.Prelude.{min, suc, zero, ℕ, cond}
use Rattle.laws.specs.Lists.{head, range}
use Rattle.limits.specs.Limits.{max_depth}
use Rattle.words.specs.Shape.{inner}
use Rattle.words.specs.Words.{nodes#, child#, dist#, inner#, m#, radius#, row#, run#}
use mathlib.Core.List.{List, [], ◌++◌, ◌∷◌, foldr, map}

-- How far a node reaches from its first: no member is farther than `outer`, the radius, and none but the first is nearer than `inner`, the
-- inner reach of 02, R-4.
pub record Reach : Type 0 where
  pub outer : ℕ
  pub inner : ℕ

-- by its two numbers
abbrev pub reaching : ℕ → ℕ → Reach
reaching outer inner = record { outer = outer; inner = inner }

-- Nodes side by side: the children of one node, in order, or the root alone. A leaf has its reach and its members, each a row number
-- with its stored distance; an inner node has its reach and its children; both have the nodes after them.
pub data Grove : Type 0 where
  bare : Grove
  leaf : Reach → List (ℕ × ℕ) → Grove → Grove
  fork : Reach → Grove → Grove → Grove

-- all members, in the order of their positions
abbrev pub entries : Grove → List (ℕ × ℕ)
entries bare = []
entries (leaf R es g) = es ++ entries g
entries (fork R ks g) = entries ks ++ entries g

-- the members' row numbers
abbrev pub rows_in : Grove → List ℕ
rows_in g = map (λ e. e.0) (entries g)

-- the first of each node: the row at its run's start, which an inner node shares with its first child. Of children, their centres
abbrev pub firsts : Grove → List ℕ
firsts bare = []
firsts (leaf R es g) = head (map (λ e. e.0) es) ∷ firsts g
firsts (fork R ks g) = head (firsts ks) ∷ firsts g

-- the first of the first node
abbrev pub first : Grove → ℕ
first g = head (firsts g)

-- ---- the tree of an index
-- how far node k reaches, by its words
abbrev pub reach# : List ℕ → ℕ → Reach
reach# w k = reaching (radius# w k) (inner# w k)

-- the members of node k, by its words
abbrev pub members# : List ℕ → ℕ → List (ℕ × ℕ)
members# w k = map (λ p. (row# w p, dist# w p)) (run# w k)

-- node k with at most `deep` levels below it, before the nodes g
unfoldable pub tree_at : List ℕ → ℕ → ℕ → Grove → Grove
tree_at w zero k g = leaf (reach# w k) (members# w k) g
tree_at w (suc deep) k g =
    let branch = fork (reach# w k) (foldr (tree_at w deep) bare (range (child# w k) (m# w))) g in
    cond (inner w k) branch (leaf (reach# w k) (members# w k) g)

-- from the root on, if there is one
unfoldable pub tree_of : List ℕ → Grove
tree_of w = foldr (tree_at w max_depth) bare (range 0 (min (nodes# w) 1))
