-- An old node of an index, as it stands in one that is grown anew from it. A working notion, on which no promise rests. Assumes nothing.
use Rattle.std.specs.Prelude.{◌*◌, ◌+◌, ◌<◌, ◌≤◌, ℕ, ltb, drop, length, take, ◌&&◌, cond, List, ◌++◌, map, ◌≡◌}
use Rattle.appending.specs.Append.{reach_with}
use Rattle.laws.specs.Lists.{each, range}
use Rattle.limits.specs.Limits.{max_rows}
use Rattle.moved_runs.specs.Runs.{holds, new_child, new_count, new_start}
use Rattle.split.specs.Places.{node_at_lem}
use Rattle.tree.specs.Encode.{Node, node_words}
use Rattle.tree.specs.Grove.{Reach, reach#}
use Rattle.words.specs.InShape.{InShape}
use Rattle.words.specs.Words.{nodes#, c#, count#, edition#, first#, l#, n#}

-- ---- an old node when `added` rows have come to the end of node v's run
-- how far it reaches: where its run holds node v's and rows have come, to the first of them too, which is row n of the old index
unfoldable pub new_reach : (ℕ → ℕ → ℕ) → List ℕ → ℕ → ℕ → ℕ → Reach
new_reach d w v added k =
    cond (holds w v k && ltb 0 added) (reach_with (count# w k) (reach# w k) (d (first# w k) (n# w))) (reach# w k)

-- the two numbers of a reach
abbrev pub Numbers : Reach → ℕ → ℕ → Type 0
Numbers R radius inner = (radius ≡ R.outer) × (inner ≡ R.inner)

-- its words while it waits
unfoldable pub copied : (ℕ → ℕ → ℕ) → List ℕ → ℕ → ℕ → ℕ → Node
copied d w v added k = (new_start w v added k, new_count w v added k, new_child w v k, new_reach d w v added k)

-- ---- where the nodes come from, and where they stand
-- an index of edition 2 in shape, one of its nodes, a table with `added` rows more than it, and a limit that no old leaf above depth 24 is over
pub record Change (t w : List ℕ) (v added limit : ℕ) : Type 0 where
  pub shape : InShape w
  pub edition : edition# w ≡ 2
  pub there : v < nodes# w
  pub leafy : l# w ≤ limit
  pub rows : n# w + added ≤ max_rows
  pub table : c# w * (n# w + added) ≤ length t

-- the old nodes' words from o on, k of them, copied behind the first `made` nodes
abbrev pub with_copies : (ℕ → Node) → ℕ → ℕ → List ℕ → ℕ → List ℕ
with_copies copy o k room made =
    take (node_at_lem made) room ++ (each (node_words 2) (map copy (range o k)) ++ drop (node_at_lem (made + k)) room)
