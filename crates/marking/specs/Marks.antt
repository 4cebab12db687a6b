-- What is marked at a node, by the words of the index: at its centres and in its run. A working notion, on which no promise rests.
-- Assumes nothing.
use Rattle.std.specs.Prelude.{◌+◌, ◌<◌, ◌≤◌, ℕ, get_or, List, [], ◌∷◌, map, ◌≡◌}
use Rattle.laws.specs.Lists.{least, range}
use Rattle.limits.specs.Limits.{max_distance}
use Rattle.tree.specs.Radius.{by_distance}
use Rattle.words.specs.Words.{first#, m#, row#}

-- a position of a swept node
abbrev pub swept_at : List ℕ → ℕ → List (ℕ × ℕ)
swept_at w p = (row# w p, 2) ∷ []

module _ (x : ℕ → ℕ) (w : List ℕ) where
  -- the distance of node k's first
  abbrev pub first_at : ℕ → ℕ
  first_at k = x (first# w k)

  -- the least distance over the m centres whose nodes are ch, ch + 1, ..
  abbrev pub least_from : ℕ → ℕ
  least_from ch = least (first_at ch) (map first_at (range ch (m# w)))

  -- ds holds the distances of these centres
  pub record Distances (ch : ℕ) (ds : List ℕ) : Type 0 where
    pub at : (j : ℕ) → j < m# w → get_or ds j 0 ≡ first_at (ch + j)
    pub near : (j : ℕ) → j < m# w → get_or ds j 0 ≤ max_distance

module _ (x : ℕ → ℕ) (r : ℕ) (w : List ℕ) where
  -- the centre that is node k's first
  abbrev pub centre_at : ℕ → List (ℕ × ℕ)
  centre_at k = (first# w k, by_distance x r (first# w k)) ∷ []
