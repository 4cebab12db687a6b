-- The shape test as one pass over the nodes in number order, with counters for the levels. A working notion, on which no promise rests. Assumes
-- nothing.
use Rattle.std.specs.Prelude.{◌+◌, ◌<◌, ◌≤◌, suc, ℕ, leb, Bool, ◌&&◌, ◌||◌, not, List, ◌≡◌}
use Rattle.limits.specs.Limits.{max_depth, max_distance}
use Rattle.words.specs.Shape.{born, inner, level, node_fits}
use Rattle.words.specs.Words.{nodes#, count#, inner#, m#, radius#}

-- the children of node k, if it is inner, have numbers below N
abbrev pub roomy : List ℕ → ℕ → ℕ → Bool
roomy w k next = not (inner w k) || leb (next + m# w) (nodes# w)

-- node k has a row, and its radius and its inner reach are in range
abbrev pub ranged : List ℕ → ℕ → Bool
ranged w k = leb 1 (count# w k) && leb (radius# w k) max_distance && leb (inner# w k) max_distance

-- node k fits, by what the counters say: the number that its first child must have, and its depth
abbrev pub fits : List ℕ → ℕ → ℕ → ℕ → Bool
fits w k next depth = roomy w k next && node_fits w k next (leb max_depth depth)

-- the counters at node k: the number that the next first child has, where the next level starts, the depth
pub record Counted (w : List ℕ) (k next edge depth : ℕ) : Type 0 where
  pub next-is : next ≡ born w k
  pub edge_is : edge ≡ level w (suc depth)
  pub low : level w depth ≤ k
  pub high : k < next → k < edge
