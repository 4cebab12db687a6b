-- The pieces that tile the positions while the levels of an index that takes rows are opened. A working notion, on which no promise rests. Assumes
-- nothing.
use Rattle.std.specs.Prelude.{◌+◌, ℕ, Bool, ◌&&◌, cond, false, true, List, [], ◌∷◌, map, ◌≡◌}
use Rattle.dealing.specs.Pending.{size_of}
use Rattle.laws.specs.Lists.{each}
use Rattle.measure.specs.Table.{between}
use Rattle.opening.specs.Sound.{waits}
use Rattle.swelling.specs.Pieces.{Piece, opens, start_of}
use Rattle.words.specs.Words.{c#, circles#}

-- a piece, and whether it is on the level at hand: any other is a leaf of a level above
abbrev pub Tile : Type 0
Tile = Bool × Piece

-- the pieces of some tiles
abbrev pub pieces : List Tile → List Piece
pieces ts = map (λ x. x.1) ts

-- those on the level at hand
abbrev pub current : List Tile → List Piece
current [] = []
current (x ∷ ts) = cond x.0 (x.1 ∷ current ts) (current ts)

-- pieces of the level at hand
abbrev pub fresh : List Piece → List Tile
fresh qs = map (λ q. (true, q)) qs

-- what a tile leaves one level down: a piece that waits gives way to what it is opened into, and any other stays
abbrev pub below : List ℕ → List ℕ → Tile → List Tile
below t w x = cond (x.0 && waits w x.1) (fresh (opens (between t (c# w) (circles# w)) w x.1)) ((false, x.1) ∷ [])

-- the tiles one level down
abbrev pub below_all : List ℕ → List ℕ → List Tile → List Tile
below_all t w ts = each (below t w) ts

-- a tile of a level above is a leaf
abbrev pub Leafy : List ℕ → Tile → Type 0
Leafy w x = x.0 ≡ false → waits w x.1 ≡ false

-- pieces that follow each other from position s on
abbrev pub Follow : List ℕ → ℕ → List Piece → Type 0
Follow w s [] = Unit {0}
Follow w s (q ∷ qs) = (start_of q ≡ s) × Follow w (s + size_of w q) qs
