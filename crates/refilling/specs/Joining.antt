-- The rows that join an index in one pass: what the call has seen to before, and what it leaves. A working notion, on which no promise rests. Assumes
-- nothing.
use Rattle.std.specs.Prelude.{◌*◌, ◌+◌, ◌<◌, ◌≤◌, ℕ, T, drop, length, replicate, List, ◌++◌, ◌≡◌}
use Rattle.build_refusals.specs.Numbers.{room_of}
use Rattle.limits.specs.Limits.{max_rows}
use Rattle.measure.specs.Table.{rows_of}
use Rattle.swelling.specs.Rows.{appended_rows}
use Rattle.words.specs.InShape.{InShape}
use Rattle.words.specs.Shape.{tree_fits_lem}
use Rattle.words.specs.Words.{nodes#, c#, edition#, n#}

-- an edition 2 index in shape that has a row, a table with more rows, and rooms for all of them
pub record RowsJoinable (t : List ℕ) (c : ℕ) (w room work : List ℕ) : Type 0 where
  pub shape : InShape w
  pub tree : T (tree_fits_lem w)
  pub edition : edition# w ≡ 2
  pub columns : c# w ≡ c
  pub some : 1 ≤ n# w
  pub more : n# w < rows_of t c
  pub few : rows_of t c ≤ max_rows
  pub table : c * rows_of t c ≤ length t
  pub space : room_of (rows_of t c) ≤ length room
  pub halves : length work ≡ 6 * rows_of t c

-- the index with all rows in it stands at the front of the room, and the workspace is zero
pub record RowsJoin (t : List ℕ) (c : ℕ) (w room work room' work' : List ℕ) (nodes : ℕ) : Type 0 where
  pub index : room' ≡ appended_rows t c w ++ drop (length (appended_rows t c w)) room
  pub count : nodes ≡ nodes# (appended_rows t c w)
  pub few : nodes ≤ 2 * rows_of t c
  pub long : length (appended_rows t c w) ≡ 8 + 5 * nodes + 2 * rows_of t c
  pub cleared : work' ≡ replicate (length work) 0
