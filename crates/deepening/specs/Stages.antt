-- What stands in the room and in the workspace while the levels of an index that takes rows are opened. A working notion, on which no promise rests.
-- Assumes nothing.
use Rattle.std.specs.Prelude.{◌*◌, ◌+◌, ◌≤◌, suc, ℕ, eqb, length, take, Bool, true, List, [], ◌++◌, ◌∷◌, map, ◌≡◌}
use Rattle.dealing.specs.Pending.{StandAll, pend_of}
use Rattle.deepening.specs.Tiles.{Follow, Leafy, Tile, below_all, current, pieces}
use Rattle.growing.specs.Stages.{with_nodes}
use Rattle.laws.specs.Every.{Every}
use Rattle.laws.specs.Lists.{each}
use Rattle.limits.specs.Limits.{max_depth}
use Rattle.measure.specs.Table.{between}
use Rattle.opening.specs.Sound.{Sound, Task}
use Rattle.rounds.specs.Entries.{pairs_in}
use Rattle.swelling.specs.Pieces.{Piece, level_from, levels_from, members_from}
use Rattle.tree.specs.Encode.{Node, pair_words}
use Rattle.words.specs.Words.{c#, circles#, header_words}

-- ---- between two levels
-- The nodes lo to hi are the level's pieces while they wait, behind `before`, with `deep` levels below them; the tiles fill the first half of the
-- workspace
pub record Stage (t w : List ℕ) (n deep : ℕ) (origin : List ℕ) (before : List Node) (tiles : List Tile) (room work : List ℕ) (lo hi : ℕ) : Type 0
  where
    pub task : Task t w n
    pub nodes : room ≡ with_nodes origin (before ++ map (pend_of t w (eqb deep 0)) (current tiles))
    pub space : 10 * n + header_words ≤ length origin
    pub first : lo ≡ length before
    pub last : hi ≡ length before + length (current tiles)
    pub few : hi + 1 ≤ 2 * length tiles
    pub sound : Every (Sound t w n deep) (pieces tiles)
    pub leafy : Every (Leafy w) tiles
    pub halves : 6 * n ≤ length work
    pub stand : StandAll t w (eqb deep 0) (pieces tiles) (take (3 * n) work)
    pub follow : Follow w 0 (pieces tiles)

-- there are such tiles, and a level below them; `last` says that it is the last
pub record Level (t w : List ℕ) (n : ℕ) (last : Bool) (room work : List ℕ) (lo hi : ℕ) : Type 0 where
  pub deep : ℕ
  pub shallow : last ≡ eqb deep 0
  pub origin : List ℕ
  pub before : List Node
  pub tiles : List Tile
  pub stage : Stage t w n (suc deep) origin before tiles room work lo hi

-- the stage one level down, of any tiles that were there
abbrev pub Staged : List ℕ → List ℕ → ℕ → Bool → List ℕ → List ℕ → ℕ → ℕ → List ℕ → List ℕ → ℕ → Type 0
Staged t w n last room work lo hi room' work' r =
    (g : Level t w n last room work lo hi)
    → Stage t w n g.deep g.origin (g.before ++ level_from (between t (c# w) (circles# w)) w hi (current g.tiles)) (below_all t w g.tiles)
    room' work' hi r

-- ---- all levels
-- a piece stands alone, and is the root
pub record Planted (t w : List ℕ) (n : ℕ) (room work : List ℕ) : Type 0 where
  pub root : Piece
  pub origin : List ℕ
  pub rooted : Stage t w n max_depth origin [] ((true, root) ∷ []) room work 0 1

-- every level stands below it: the nodes of `levels_from`, and the pairs of `members_from`
pub record Layered (t w : List ℕ) (n : ℕ) (root : Piece) (origin room work : List ℕ) (made : ℕ) : Type 0 where
  pub nodes : room ≡ with_nodes origin (levels_from (between t (c# w) (circles# w)) w max_depth 1 (root ∷ []))
  pub count : made ≡ length (levels_from (between t (c# w) (circles# w)) w max_depth 1 (root ∷ []))
  pub few : made ≤ 2 * n
  pub pairs : pairs_in (take (3 * n) work) ≡ each pair_words (members_from (between t (c# w) (circles# w)) w max_depth root)
  pub many : length (members_from (between t (c# w) (circles# w)) w max_depth root) ≡ n

-- it does so, whatever the root and the room before
abbrev pub Leveled : List ℕ → List ℕ → ℕ → List ℕ → List ℕ → List ℕ → List ℕ → ℕ → Type 0
Leveled t w n room work room' work' made = (g : Planted t w n room work) → Layered t w n g.root g.origin room' work' made
