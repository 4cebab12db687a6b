-- The root of an index that takes all of a table's rows that it has not. A working notion, on which no promise rests. Assumes nothing.
use Rattle.std.specs.Prelude.{◌*◌, ◌+◌, ◌-◌, ◌≤◌, ℕ, drop, length, take, true, List, [], ◌++◌, ◌∷◌, map, ◌≡◌}
use Rattle.deepening.specs.Stages.{Stage}
use Rattle.laws.specs.Lists.{each, range}
use Rattle.limits.specs.Limits.{max_depth}
use Rattle.measure.specs.Table.{between}
use Rattle.opening.specs.Sound.{Task}
use Rattle.swelling.specs.Pieces.{Piece, piece_of}
use Rattle.swelling.specs.Swell.{reach_taking}
use Rattle.tree.specs.Grove.{reach#}
use Rattle.words.specs.Words.{c#, circles#, first#, header_words, n#}

-- the rows that the index has not
abbrev pub new_ones : List ℕ → ℕ → List ℕ
new_ones w n = range (n# w) (n - n# w)

-- an index that has a row, and a table of n rows: room and workspace are long enough
pub record RootAsk (t w : List ℕ) (n : ℕ) (room work : List ℕ) : Type 0 where
  pub task : Task t w n
  pub some : 1 ≤ n# w
  pub space : 12 * n + header_words ≤ length room
  pub halves : length work ≡ 6 * n

-- a new row's entry: its distance from the root's first
abbrev pub new_entry : List ℕ → List ℕ → ℕ → List ℕ
new_entry t w z = z ∷ between t (c# w) (circles# w) (first# w 0) z ∷ 0 ∷ []

-- all of them stand behind the root's own entries, and how far it reaches with them is told
pub record TakenIn (t w : List ℕ) (n : ℕ) (work work' : List ℕ) (radius inner : ℕ) : Type 0 where
  pub words : work' ≡ take (3 * n# w) work ++ (each (new_entry t w) (new_ones w n) ++ drop (3 * n) work)
  pub far : radius ≡ (reach_taking (n# w) (reach# w 0) (map (between t (c# w) (circles# w) (first# w 0)) (new_ones w n))).outer
  pub near : inner ≡ (reach_taking (n# w) (reach# w 0) (map (between t (c# w) (circles# w) (first# w 0)) (new_ones w n))).inner

-- the root's piece
abbrev pub root_piece : List ℕ → List ℕ → ℕ → Piece
root_piece t w n = piece_of (between t (c# w) (circles# w)) w 0 0 (new_ones w n)

-- it stands alone, in a room that was `origin`
abbrev pub Rooted : List ℕ → List ℕ → ℕ → List ℕ → List ℕ → List ℕ → Type 0
Rooted t w n origin room work = Stage t w n max_depth origin [] ((true, root_piece t w n) ∷ []) room work 0 1
