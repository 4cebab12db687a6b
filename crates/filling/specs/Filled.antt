-- The pieces that a build writes, and the whole of them: 01, The tree, Index words. A working notion, on which no promise rests. Assumes nothing.
use Rattle.std.specs.Prelude.{◌*◌, ◌≤◌, ℕ, drop, length, replicate, take, List, ◌++◌, ◌≡◌}
use Rattle.growing.specs.Stages.{with_nodes}
use Rattle.laws.specs.Lists.{each}
use Rattle.measure.specs.Table.{between}
use Rattle.rounds.specs.Entries.{pairs_in}
use Rattle.tree.specs.Build.{plant}
use Rattle.tree.specs.Encode.{encode, numbered, pair_words}
use Rattle.tree.specs.Grove.{entries}

-- the tree's nodes stand in the room, and its positions in the workspace
pub record Grown (t : List ℕ) (c o m l n : ℕ) (origin room work : List ℕ) (made : ℕ) : Type 0 where
  pub nodes : room ≡ with_nodes origin (numbered (plant (between t c o) m l n))
  pub count : made ≡ length (numbered (plant (between t c o) m l n))
  pub few : made ≤ 2 * n
  pub pairs : pairs_in (take (3 * n) work) ≡ each pair_words (entries (plant (between t c o) m l n))

-- the index stands in the room, and the workspace is cleared
pub record Filled (t : List ℕ) (c o m l n : ℕ) (room room' work' : List ℕ) (nodes : ℕ) : Type 0 where
  pub index : room' ≡ encode 2 c o m l (plant (between t c o) m l n) ++ drop (length (encode 2 c o m l (plant (between t c o) m l n))) room
  pub count : nodes ≡ length (numbered (plant (between t c o) m l n))
  pub few : nodes ≤ 2 * n
  pub cleared : work' ≡ replicate (6 * n) 0
