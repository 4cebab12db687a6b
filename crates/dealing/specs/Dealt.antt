-- The new rows of an old inner node, dealt out to its children: what is asked, and what is left. A working notion, on which no promise rests. Assumes
-- nothing.
use Rattle.std.specs.Prelude.{◌*◌, ◌+◌, ◌-◌, ◌<◌, ◌≤◌, ℕ, eqb, drop, length, take, Bool, true, List, ◌++◌, map, ◌≡◌}
use Rattle.dealing.specs.Marked.{marked}
use Rattle.dealing.specs.Pending.{StandAll, pend_of}
use Rattle.laws.specs.Lists.{each, keep}
use Rattle.limits.specs.Limits.{max_rows}
use Rattle.lodging.specs.Standing.{New, Stands}
use Rattle.measure.specs.Table.{between}
use Rattle.rounds.specs.Stretch.{stretch}
use Rattle.split.specs.Places.{node_at_lem}
use Rattle.swelling.specs.Pieces.{Piece, kid_for, kids_from, piece_of}
use Rattle.tree.specs.Encode.{node_words}
use Rattle.words.specs.InShape.{InShape}
use Rattle.words.specs.Shape.{inner}
use Rattle.words.specs.Words.{nodes#, c#, child#, circles#, count#, edition#, m#, n#}

-- the inner node o of an edition 2 index in shape, and its new rows zs, marked, between the words lo and hi of a first half of 3n words
pub record Deals (t w : List ℕ) (o n lo hi : ℕ) (zs work : List ℕ) : Type 0 where
  pub shape : InShape w
  pub edition : edition# w ≡ 2
  pub there : o < nodes# w
  pub inner : inner w o ≡ true
  pub table : c# w * n# w ≤ length t
  pub new : New t (c# w) w zs
  pub order : lo ≤ hi
  pub half : hi ≤ 3 * n
  pub halves : 6 * n ≤ length work
  pub few : n ≤ max_rows
  pub entries : stretch work lo hi ≡ marked (between t (c# w) (circles# w)) w o zs

module _ (t w : List ℕ) (o : ℕ) (zs : List ℕ) where
  -- the rows of the child at place k
  abbrev pub kid_rows : ℕ → List ℕ
  kid_rows k = keep (λ z. eqb (kid_for (between t (c# w) (circles# w)) w o z) k) zs

  -- its piece, which starts at position `at`
  abbrev pub kid_piece : ℕ → ℕ → Piece
  kid_piece k at = piece_of (between t (c# w) (circles# w)) w at (child# w o + k) (kid_rows k)

  -- all children's pieces, from position s on
  abbrev pub kid_pieces : ℕ → List Piece
  kid_pieces s = kids_from (between t (c# w) (circles# w)) w (kid_for (between t (c# w) (circles# w)) w o) zs s (child# w o) 0 (m# w)

-- ---- one child
-- there is room for it from position `at` on in the second half, and for its node
pub record ChildAsk (t w : List ℕ) (o n lo hi : ℕ) (room work : List ℕ) (k at made : ℕ) : Type 0 where
  pub zs : List ℕ
  pub deals : Deals t w o n lo hi zs work
  pub child : k < m# w
  pub fits : at + (count# w (child# w o + k) + length (kid_rows t w o zs k)) ≤ n
  pub nodes : node_at_lem (made + k + 1) ≤ length room
  pub small : made + k ≤ 2097152

-- it stands there, and its node in the room; the first half is as it was
pub record ChildDealt (t w : List ℕ) (o n : ℕ) (last : Bool) (zs room work : List ℕ) (k at made : ℕ) (room' work' : List ℕ) (r : ℕ) : Type 0 where
  pub count : r ≡ count# w (child# w o + k) + length (kid_rows t w o zs k)
  pub nodes : room'
      ≡ take (node_at_lem (made + k)) room ++ (node_words 2 (pend_of t w last (kid_piece t w o zs k at)) ++ drop (node_at_lem (made + k + 1)) room)
  pub before : take (3 * (n + at)) work' ≡ take (3 * (n + at)) work
  pub long : length work' ≡ length work
  pub stands : Stands t (c# w) w last (kid_piece t w o zs k at) (stretch work' (3 * (n + at)) (3 * (n + at) + 3 * r))

-- it does, whatever the rows
abbrev pub ChildDeals : List ℕ → List ℕ → ℕ → ℕ → ℕ → ℕ → Bool → List ℕ → List ℕ → ℕ → ℕ → ℕ → List ℕ → List ℕ → ℕ → Type 0
ChildDeals t w o n lo hi last room work k at made room' work' r =
    (g : ChildAsk t w o n lo hi room work k at made) → ChildDealt t w o n last g.zs room work k at made room' work' r

-- ---- all children
-- there is room for them from position s on in the second half, and for their nodes
pub record KidsAsk (t w : List ℕ) (o n lo hi : ℕ) (room work : List ℕ) (s made : ℕ) : Type 0 where
  pub zs : List ℕ
  pub deals : Deals t w o n lo hi zs work
  pub fits : s + (count# w o + length zs) ≤ n
  pub nodes : node_at_lem (made + m# w) ≤ length room
  pub small : made + m# w ≤ 2097152

-- they stand there, one behind the other, and their nodes in the room; the first half is as it was
pub record KidsDealt (t w : List ℕ) (o n : ℕ) (last : Bool) (zs room work : List ℕ) (s made : ℕ) (room' work' : List ℕ) : Type 0 where
  pub nodes : room'
      ≡ take (node_at_lem made) room ++ (each (node_words 2) (map (pend_of t w last) (kid_pieces t w o zs s)) ++ drop (node_at_lem (made + m# w)) room)
  pub before : take (3 * n) work' ≡ take (3 * n) work
  pub long : length work' ≡ length work
  pub stand : StandAll t w last (kid_pieces t w o zs s) (stretch work' (3 * (n + s)) (3 * (n + s) + 3 * (count# w o + length zs)))

-- they do, whatever the rows
abbrev pub KidsDeal : List ℕ → List ℕ → ℕ → ℕ → ℕ → ℕ → Bool → List ℕ → List ℕ → ℕ → ℕ → List ℕ → List ℕ → Type 0
KidsDeal t w o n lo hi last room work s made room' work' =
    (g : KidsAsk t w o n lo hi room work s made) → KidsDealt t w o n last g.zs room work s made room' work'
