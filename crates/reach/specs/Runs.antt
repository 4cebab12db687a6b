-- How far a node's run reaches. A working notion, on which no promise rests. Assumes nothing.
use Rattle.std.specs.Prelude.{ℕ, List, map, ◌≡◌}
use Rattle.laws.specs.Lists.{greatest}
use Rattle.tree.specs.Check.{nearest#}
use Rattle.words.specs.Words.{first#, row#, run#}

-- the greatest distance of a member from node k's first
abbrev pub reach_of : (ℕ → ℕ → ℕ) → List ℕ → ℕ → ℕ
reach_of d w k = greatest (map (λ p. d (first# w k) (row# w p)) (run# w k))

-- node k reaches as far as `far`, and but for its first no member is nearer than `near`
pub record Reaches (d : ℕ → ℕ → ℕ) (w : List ℕ) (k far near : ℕ) : Type 0 where
  -- 01, The tree: the radius
  pub outer : far ≡ reach_of d w k
  -- 02, R-4: the inner reach
  pub inner : near ≡ nearest# d w k
