-- One piece opened: what is asked, and what is left in room and workspace. A working notion, on which no promise rests. Assumes nothing.
use Rattle.std.specs.Prelude.{◌*◌, ◌+◌, ◌<◌, ◌≤◌, suc, ℕ, drop, length, take, Bool, false, true, List, ◌++◌, ◌∷◌, map, ◌≡◌}
use Rattle.dealing.specs.Dealt.{kid_pieces}
use Rattle.dealing.specs.Pending.{StandAll, pend_of, size_of}
use Rattle.growing.specs.Stages.{with_nodes}
use Rattle.laws.specs.Lists.{each}
use Rattle.lodging.specs.Standing.{New, Stands, new_rows}
use Rattle.measure.specs.Table.{between}
use Rattle.opening.specs.Sound.{Sound, Task, opened, waits}
use Rattle.rounds.specs.Stretch.{stretch}
use Rattle.split.specs.Places.{node_at_lem}
use Rattle.swelling.specs.Pieces.{Piece, opens, start_of, waiting}
use Rattle.tree.specs.Encode.{Node, node_words}
use Rattle.words.specs.Shape.{inner}
use Rattle.words.specs.Words.{nodes#, c#, circles#, count#, m#}

-- ---- m pieces in the place of one
-- the nodes of these pieces are those from `made` on, and their words stand where the `count` rows from position s on stood; the rest of the first
-- half is as it was
pub record Replaced (t w : List ℕ) (n : ℕ) (last : Bool) (qs : List Piece) (room work : List ℕ) (s count made : ℕ) (room' work' : List ℕ) : Type 0
  where
    pub nodes : room' ≡ take (node_at_lem made) room ++ (each (node_words 2) (map (pend_of t w last) qs) ++ drop (node_at_lem (made + m# w)) room)
    pub part : List ℕ
    pub stand : StandAll t w last qs part
    pub words : take (3 * n) work' ≡ take (3 * s) work ++ (part ++ stretch work (3 * s + 3 * count) (3 * n))

-- ---- an old inner node
-- its new rows stand behind room for its own, from position s on
pub record OldAsk (t w : List ℕ) (n : ℕ) (room work : List ℕ) (o s count made : ℕ) : Type 0 where
  pub zs : List ℕ
  pub task : Task t w n
  pub there : o < nodes# w
  pub inner : inner w o ≡ true
  pub new : New t (c# w) w zs
  pub size : count ≡ count# w o + length zs
  pub fits : s + count ≤ n
  pub rows : new_rows w o (stretch work (3 * s) (3 * s + 3 * count)) ≡ zs
  pub halves : 6 * n ≤ length work
  pub nodes : node_at_lem (made + m# w) ≤ length room
  pub small : made + m# w ≤ 2097152

-- its children stand in its place, whatever the rows
abbrev pub OldOpens : List ℕ → List ℕ → ℕ → Bool → List ℕ → List ℕ → ℕ → ℕ → ℕ → ℕ → List ℕ → List ℕ → Type 0
OldOpens t w n last room work o s count made room' work' =
    (g : OldAsk t w n room work o s count made) → Replaced t w n last (kid_pieces t w o g.zs s) room work s count made room' work'

-- ---- any piece
-- piece q is node k of those made, behind `fore` and before `rear`, and stands in the first half between `lead` and `tail`; there is room for its
-- children
pub record Waiting (t w : List ℕ) (n deep : ℕ) (q : Piece) (origin : List ℕ) (fore rear : List Node) (lead ws tail room work : List ℕ) (k made : ℕ)
    : Type 0 where
  pub task : Task t w n
  pub sound : Sound t w n (suc deep) q
  pub nodes : room ≡ with_nodes origin (fore ++ pend_of t w false q ∷ rear)
  pub here : k ≡ length fore
  pub all : made ≡ length fore + (1 + length rear)
  pub there : node_at_lem made ≤ length origin
  pub small : made ≤ 2097152
  pub space : waits w q ≡ true → (node_at_lem (made + m# w) ≤ length origin) × (made + m# w ≤ 2097152)
  pub halves : 6 * n ≤ length work
  pub words : take (3 * n) work ≡ lead ++ (ws ++ tail)
  pub place : length lead ≡ 3 * start_of q
  pub size : length ws ≡ 3 * size_of w q
  pub stands : Stands t (c# w) w false q ws

-- there is such a piece
pub record PieceAsk (t w : List ℕ) (n : ℕ) (room work : List ℕ) (k made : ℕ) : Type 0 where
  pub deep : ℕ
  pub q : Piece
  pub origin : List ℕ
  pub fore : List Node
  pub rear : List Node
  pub lead : List ℕ
  pub ws : List ℕ
  pub tail : List ℕ
  pub there : Waiting t w n deep q origin fore rear lead ws tail room work k made

-- its node has its first child's number, its children's nodes are behind the last, and what stands in its place is what it is opened into
pub record PieceOpened (t w : List ℕ) (n : ℕ) (last : Bool) (q : Piece) (origin : List ℕ) (fore rear : List Node) (lead tail : List ℕ) (made : ℕ)
    (room' work' : List ℕ) (r : ℕ) : Type 0 where
  pub count : r ≡ made + length (opens (between t (c# w) (circles# w)) w q)
  pub nodes : room'
      ≡ with_nodes origin (fore ++ waiting (between t (c# w) (circles# w)) w q made ∷ (rear ++ map (pend_of t w last)
      (opens (between t (c# w) (circles# w)) w q)))
  pub part : List ℕ
  pub stand : StandAll t w last (opened t w q) part
  pub words : take (3 * n) work' ≡ lead ++ (part ++ tail)

-- they are, whatever the piece
abbrev pub PieceOpens : List ℕ → List ℕ → ℕ → Bool → List ℕ → List ℕ → ℕ → ℕ → List ℕ → List ℕ → ℕ → Type 0
PieceOpens t w n last room work k made room' work' r =
    (g : PieceAsk t w n room work k made)
    → PieceOpened t w n last g.q g.origin g.fore g.rear g.lead g.tail made room' work' r
