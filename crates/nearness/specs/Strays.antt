-- 13 of the full check by node, as the pass tests it. Over the distance d between rows. A working notion, on which no promise rests.
-- Assumes nothing.
use Rattle.std.specs.Prelude.{ℕ, None, Option, Some, List, map}
use Rattle.laws.specs.Lists.{each, keep, range}
use Rattle.limits.specs.Said.{Said}
use Rattle.nearness.specs.declared.Stray.{Stray}
use Rattle.tree.specs.Check.{strays}
use Rattle.words.specs.Words.{nodes#, run#}

-- what the code hands back, as a number and two places
abbrev pub told : Option Stray → Said
told None = (0, 0, 0)
told (Some s) = (13, s.node, s.position)

module _ (d : ℕ → ℕ → ℕ) (w : List ℕ) where
  -- 13, of one node: its faults in the order of positions
  unfoldable pub node_strays : ℕ → List Said
  node_strays k = map (λ p. (13, k, p)) (keep (strays d w k) (run# w k))

  -- 13, of all nodes
  unfoldable pub all_strays : List Said
  all_strays = each node_strays (range 0 (nodes# w))
