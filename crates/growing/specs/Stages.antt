-- What stands in the room and in the workspace while the tree grows. A working notion, on which no promise rests. Assumes nothing.
use Rattle.std.specs.Prelude.{◌*◌, ◌+◌, ◌<◌, ◌≤◌, ℕ, drop, length, set, take, List, ◌++◌, map, ◌≡◌}
use Rattle.growing.specs.Levels.{Item, leaf_node, level_out_lem, next_level, opened, placed, waits}
use Rattle.laws.specs.Every.{Every}
use Rattle.laws.specs.Lists.{each, joined, keep}
use Rattle.limits.specs.Limits.{max_centres, max_columns, max_leaf, max_rows}
use Rattle.measure.specs.Table.{between}
use Rattle.split.specs.Runs.{Splittable, Splitted, laid}
use Rattle.tree.specs.Build.{Run}
use Rattle.tree.specs.Encode.{Node, node_words}
use Rattle.split.specs.Places.{count#, node_at_lem, start#}
use Rattle.words.specs.Words.{header_words}

-- the numbers that a build works with: in range, and the table has n rows
pub record Fit (t : List ℕ) (c m l n : ℕ) : Type 0 where
  pub columns : c ≤ max_columns
  pub rows : n ≤ max_rows
  pub table : c * n ≤ length t
  pub two : 2 ≤ m
  pub most : m ≤ max_centres
  pub leafy : m ≤ l
  pub leaf : l ≤ max_leaf

-- a room in which these nodes' words were written behind the header
abbrev pub with_nodes : List ℕ → List Node → List ℕ
with_nodes room ns = take header_words room ++ (each (node_words 2) ns ++ drop (node_at_lem (length ns)) room)

-- the first half of the workspace is runs that follow each other: none empty, no row in one twice, rows below n, n of them. A split replaces its tile
-- in place, so that no argument is needed about which parts lie apart, and counting tiles gives the room for the nodes (`few`)
pub record Tiled (d : ℕ → ℕ → ℕ) (n : ℕ) (work : List ℕ) (tiles : List (List ℕ)) : Type 0 where
  pub halves : 6 * n ≤ length work
  pub words : take (3 * n) work ≡ each (laid d) tiles
  pub runs : Every Run tiles
  pub rows : Every (Every (λ i. i < n)) tiles
  pub full : length (joined tiles) ≡ n

-- ---- between two levels
-- The nodes lo to hi are the level's items, no children yet, and behind `before`; those that wait to be split are the tiles that wait, in their order
pub record Stage (d : ℕ → ℕ → ℕ) (m l n : ℕ) (origin : List ℕ) (before : List Node) (items : List Item) (tiles : List (List ℕ))
    (room work : List ℕ) (lo hi : ℕ) : Type 0 where
  pub nodes : room ≡ with_nodes origin (before ++ map (leaf_node d m l) items)
  pub space : 10 * n + header_words ≤ length origin
  pub first : lo ≡ length before
  pub last : hi ≡ length before + length items
  pub few : hi + 1 ≤ 2 * length tiles
  pub tiled : Tiled d n work tiles
  pub wait : keep (waits l) items ≡ keep (waits l) (placed 0 tiles)

-- there are such items and tiles
pub record Level (t : List ℕ) (c o m l n : ℕ) (room work : List ℕ) (lo hi : ℕ) : Type 0 where
  pub fit : Fit t c m l n
  pub origin : List ℕ
  pub before : List Node
  pub items : List Item
  pub tiles : List (List ℕ)
  pub stage : Stage (between t c o) m l n origin before items tiles room work lo hi

-- the stage one level down, of any items and tiles that were there
abbrev pub Staged : List ℕ → ℕ → ℕ → ℕ → ℕ → ℕ → List ℕ → List ℕ → ℕ → ℕ → List ℕ → List ℕ → ℕ → Type 0
Staged t c o m l n room work lo hi room' work' r =
    (g : Level t c o m l n room work lo hi)
    → Stage (between t c o) m l n g.origin (g.before ++ level_out_lem (between t c o) m l hi g.items) (next_level (between t c o) m l g.items)
    (each (opened (between t c o) m l) g.tiles) room' work' hi r

-- ---- one node
-- node k is one of the nodes made; where it has more than l rows, its run can be split
pub record Openable (t : List ℕ) (c o m l n : ℕ) (room work : List ℕ) (k made : ℕ) : Type 0 where
  pub old : k < made
  pub small : made ≤ 2097152
  pub centres : m ≤ max_centres
  pub there : node_at_lem made ≤ length room
  pub ready : l < count# room k → Splittable t c o m n room work (start# room k) (count# room k) made

-- a node of at most l rows stays as it is; any other has its m children from `made` on
pub record Opened (t : List ℕ) (c o m l n : ℕ) (room work : List ℕ) (k made : ℕ) (room' work' : List ℕ) (r : ℕ) : Type 0 where
  pub stays : count# room k ≤ l → (r ≡ made) × (room' ≡ room) × (work' ≡ work)
  pub splits : l < count# room k
      → (r ≡ made + m) × Splitted t c o m n (set room (node_at_lem k + 2) made) work (start# room k) (count# room k) made room' work'
