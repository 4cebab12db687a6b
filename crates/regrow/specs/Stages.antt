-- What stands in the room and in the workspace while a tree is grown anew below one node. A working notion, on which no promise rests. Assumes
-- nothing.
use Rattle.std.specs.Prelude.{◌*◌, ◌+◌, ◌<◌, ◌≤◌, suc, ℕ, length, set, take, List, [], ◌++◌, ◌∷◌, map, ◌≡◌}
use Rattle.copies.specs.Copies.{Change, copied, with_copies}
use Rattle.growing.specs.Levels.{Able, leaves, opened, placed, waits}
use Rattle.growing.specs.Stages.{Openable, Opened, with_nodes}
use Rattle.laws.specs.Every.{Every}
use Rattle.laws.specs.Lists.{each, keep}
use Rattle.limits.specs.Limits.{max_depth}
use Rattle.measure.specs.Table.{between}
use Rattle.regrow.specs.Pieces.{Job, Piece, Sound, all_nodes, due, job_of, level_out_lem, next_level, pending, piece, runs_of}
use Rattle.split.specs.Places.{child#, node_at_lem}
use Rattle.split.specs.Runs.{laid}
use Rattle.tree.specs.Encode.{Node}
use Rattle.words.specs.Words.{nodes#, c#, circles#, m#, n#}

-- ---- one node
-- node k is one of the nodes made. Where it has no child, it is opened as the build opens it; where it has, the old nodes are there and there is room
pub record Openable' (t w : List ℕ) (v added limit : ℕ) (room work : List ℕ) (k made : ℕ) : Type 0 where
  pub change : Change t w v added limit
  pub old : k < made
  pub small : made ≤ 2097152
  pub there : node_at_lem made ≤ length room
  pub splits : child# room k ≡ 0 → Openable t (c# w) (circles# w) (m# w) limit (n# w + added) room work k made
  pub copies : (child# room k ≡ 0 → ⊥) → (child# room k + m# w ≤ nodes# w) × (node_at_lem (made + m# w) ≤ length room) × (made + m# w ≤ 2097152)

-- as the build opens it; or its m old children are copied from `made` on
pub record Opened' (t w : List ℕ) (v added limit : ℕ) (room work : List ℕ) (k made : ℕ) (room' work' : List ℕ) (r : ℕ) : Type 0 where
  pub splits : child# room k ≡ 0 → Opened t (c# w) (circles# w) (m# w) limit (n# w + added) room work k made room' work' r
  pub copies : (child# room k ≡ 0 → ⊥)
      → (r ≡ made + m# w) × (work' ≡ work)
      × (room' ≡ with_copies (copied (between t (c# w) (circles# w)) w v added) (child# room k) (m# w) (set room (node_at_lem k + 2) made) made)

-- ---- the workspace
-- between `fore` and `rear` the first half of the workspace is runs that follow each other from position `base` on
pub record Paved (d : ℕ → ℕ → ℕ) (limit n base : ℕ) (fore rear work : List ℕ) (tiles : List (List ℕ)) : Type 0 where
  pub halves : 6 * n ≤ length work
  pub words : take (3 * n) work ≡ fore ++ (each (laid d) tiles ++ rear)
  pub lead : length fore ≡ 3 * base
  pub runs : Every (Able limit) tiles
  pub rows : Every (Every (λ i. i < n)) tiles

-- ---- between two levels
-- The nodes lo to hi are the level's pieces while they wait, behind `before`; there are to be at most `most` nodes
pub record Stage (j : Job) (many n deep base most : ℕ) (fore rear origin : List ℕ) (before : List Node) (items : List Piece)
    (tiles : List (List ℕ)) (room work : List ℕ) (lo hi : ℕ) : Type 0 where
  pub nodes : room ≡ with_nodes origin (before ++ map (pending j) items)
  pub space : node_at_lem most ≤ length origin
  pub small : most ≤ 2097152
  pub first : lo ≡ length before
  pub last : hi ≡ length before + length items
  pub few : length before + length (all_nodes j deep hi items) ≤ most
  pub sound : Every (Sound j many deep) items
  pub paved : Paved j.d j.limit n base fore rear work tiles

-- the new node's words while it waits are those of its run
abbrev pub Own : Job → Type 0
Own j = j.copy j.v ≡ ((j.copy j.v).0, length j.run, 0, (j.copy j.v).3)

-- there are such pieces and tiles, and a level below them; the runs among the pieces that wait to be split are the tiles that wait, in
-- their order
pub record Level (t w : List ℕ) (v added limit : ℕ) (room work : List ℕ) (lo hi : ℕ) : Type 0 where
  pub change : Change t w v added limit
  pub run : List ℕ
  pub own : Own (job_of t w v added limit run)
  pub deep : ℕ
  pub base : ℕ
  pub most : ℕ
  pub fore : List ℕ
  pub rear : List ℕ
  pub origin : List ℕ
  pub before : List Node
  pub items : List Piece
  pub tiles : List (List ℕ)
  pub stage : Stage (job_of t w v added limit run) (nodes# w) (n# w + added) (suc deep) base most fore rear origin before items tiles room work lo hi
  pub wait : keep (waits limit) (runs_of items) ≡ keep (waits limit) (placed base tiles)

-- the stage one level down, of any pieces and tiles that were there
abbrev pub Staged : List ℕ → List ℕ → ℕ → ℕ → ℕ → List ℕ → List ℕ → ℕ → ℕ → List ℕ → List ℕ → ℕ → Type 0
Staged t w v added limit room work lo hi room' work' r =
    (g : Level t w v added limit room work lo hi)
    → Stage (job_of t w v added limit g.run) (nodes# w) (n# w + added) g.deep g.base g.most g.fore g.rear g.origin
    (g.before ++ level_out_lem (job_of t w v added limit g.run) hi g.items) (next_level (job_of t w v added limit g.run) g.items)
    (each (opened (between t (c# w) (circles# w)) (m# w) limit) g.tiles) room' work' hi r

-- ---- all levels
-- The root's node stands alone in the room. Node v's run, which it comes to with `left` levels below it, is laid in the workspace
pub record Rooted (j : Job) (many n left base most : ℕ) (fore rear origin room work : List ℕ) : Type 0 where
  pub nodes : room ≡ with_nodes origin (pending j (piece j 0) ∷ [])
  pub space : node_at_lem most ≤ length origin
  pub small : most ≤ 2097152
  pub few : length (all_nodes j max_depth 1 (piece j 0 ∷ [])) ≤ most
  pub sound : Sound j many max_depth (piece j 0)
  pub below : due j max_depth (piece j 0) ≡ (left, (base, j.run)) ∷ []
  pub paved : Paved j.d j.limit n base fore rear work (j.run ∷ [])

-- in a room that was some other before, with some run
pub record Planted (t w : List ℕ) (v added limit : ℕ) (room work : List ℕ) : Type 0 where
  pub change : Change t w v added limit
  pub run : List ℕ
  pub own : Own (job_of t w v added limit run)
  pub left : ℕ
  pub base : ℕ
  pub most : ℕ
  pub fore : List ℕ
  pub rear : List ℕ
  pub origin : List ℕ
  pub rooted : Rooted (job_of t w v added limit run) (nodes# w) (n# w + added) left base most fore rear origin room work

-- every level stands; the run's leaves are in its place
pub record Layered (j : Job) (n left base : ℕ) (fore rear origin room work : List ℕ) (made : ℕ) : Type 0 where
  pub nodes : room ≡ with_nodes origin (all_nodes j max_depth 1 (piece j 0 ∷ []))
  pub count : made ≡ length (all_nodes j max_depth 1 (piece j 0 ∷ []))
  pub tiles : take (3 * n) work ≡ fore ++ (each (laid j.d) (leaves j.d j.m j.limit left j.run) ++ rear)

-- it does so, whatever the room was before the root
abbrev pub Leveled : List ℕ → List ℕ → ℕ → ℕ → ℕ → List ℕ → List ℕ → List ℕ → List ℕ → ℕ → Type 0
Leveled t w v added limit room work room' work' made =
    (g : Planted t w v added limit room work)
    → Layered (job_of t w v added limit g.run) (n# w + added) g.left g.base g.fore g.rear g.origin room' work' made
