-- The order inside a run: 01, The tree, "its centre first, then the rest by ascending row number". Assumes nothing.
use Rattle.std.specs.Prelude.{◌<◌, ℕ, List, [], ◌∷◌, map}
use Rattle.laws.specs.Every.{Every}
use Rattle.laws.specs.Lists.{rest}
use Rattle.tree.specs.Grove.{Grove, bare, fork, leaf}

-- each number is below all that stand behind it
abbrev pub Ascending : List ℕ → Type 0
Ascending [] = Unit {0}
Ascending (i ∷ is) = Every (λ j. i < j) is × Ascending is

-- behind the first of each leaf the row numbers ascend
abbrev pub InOrder : Grove → Type 0
InOrder bare = Unit {0}
InOrder (leaf R es g) = Ascending (rest (map (λ e. e.0) es)) × InOrder g
InOrder (fork R ks g) = InOrder ks × InOrder g
