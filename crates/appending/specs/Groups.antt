-- The groups of a tree: the members of each leaf, and how deep it stands. Assumes nothing.
use Rattle.std.specs.Prelude.{suc, ℕ, List, [], ◌++◌, ◌∷◌, map}
use Rattle.laws.specs.Lists.{head}
use Rattle.tree.specs.Grove.{Grove, bare, fork, leaf}

-- a leaf's depth, and its members
abbrev pub Group : Type 0
Group = ℕ × List (ℕ × ℕ)

-- the groups of nodes at depth dep, in the order of their positions
unfoldable pub groups : ℕ → Grove → List Group
groups dep bare = []
groups dep (leaf R es g) = (dep, es) ∷ groups dep g
groups dep (fork R ks g) = groups (suc dep) ks ++ groups dep g

-- the group of a run at depth dep: each row with its distance from the first
abbrev pub group_of : (ℕ → ℕ → ℕ) → ℕ → List ℕ → Group
group_of d dep run = (dep, map (λ i. (i, d (head run) i)) run)
