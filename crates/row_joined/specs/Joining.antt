-- The row that joins an index: what the call has seen to before, and what it leaves. A working notion, on which no promise rests. Assumes nothing.
use Rattle.std.specs.Prelude.{◌*◌, ◌+◌, ◌≤◌, ℕ, T, drop, length, replicate, List, ◌++◌, ◌≡◌}
use Rattle.appending.specs.Append.{appended}
use Rattle.build_refusals.specs.Numbers.{room_of}
use Rattle.limits.specs.Limits.{max_rows}
use Rattle.words.specs.InShape.{InShape}
use Rattle.words.specs.Shape.{tree_fits_lem}
use Rattle.words.specs.Words.{nodes#, c#, edition#, n#}

-- an edition 2 index in shape that has a row, a table with one row more, and rooms for it
pub record Joinable (t : List ℕ) (c : ℕ) (w room work : List ℕ) : Type 0 where
  pub shape : InShape w
  pub tree : T (tree_fits_lem w)
  pub edition : edition# w ≡ 2
  pub columns : c# w ≡ c
  pub some : 1 ≤ n# w
  pub few : n# w + 1 ≤ max_rows
  pub table : c * (n# w + 1) ≤ length t
  pub space : room_of (n# w + 1) ≤ length room
  pub halves : length work ≡ 6 * (n# w + 1)

-- the index with the row in it stands at the front of the room, and the workspace is zero
pub record Joins (t : List ℕ) (c : ℕ) (w room work room' work' : List ℕ) (nodes : ℕ) : Type 0 where
  pub index : room' ≡ appended t c w ++ drop (length (appended t c w)) room
  pub count : nodes ≡ nodes# (appended t c w)
  pub few : nodes ≤ 2 * (n# w + 1)
  pub long : length (appended t c w) ≡ 8 + 5 * nodes + 2 * (n# w + 1)
  pub cleared : work' ≡ replicate (length work) 0
