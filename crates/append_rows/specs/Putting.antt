-- The rows that are put into an index, which may have none: what the call has seen to before. A working notion, on which no promise rests. Assumes
-- nothing.
use Rattle.std.specs.Prelude.{◌*◌, ◌<◌, ◌≤◌, ℕ, length, false, true, List, ◌≡◌}
use Rattle.build_refusals.specs.Numbers.{room_of}
use Rattle.limits.specs.Limits.{max_columns, max_rows}
use Rattle.measure.specs.Table.{off_circle_lem, rows_of}
use Rattle.words.specs.Shape.{shape_ok_lem}
use Rattle.words.specs.Words.{c#, circles#, n#, words_ok_lem}

-- an edition 2 index in shape, a table with more rows, at least two, in whose circular columns no row holds 3,600 or more, and rooms for all of them
pub record Puttable (t : List ℕ) (c : ℕ) (w room work : List ℕ) : Type 0 where
  pub wide : (1 ≤ c) × (c ≤ max_columns)
  pub rows : length t ≡ c * rows_of t c
  pub few : rows_of t c ≤ max_rows
  pub whole : words_ok_lem w ≡ true
  pub shape : shape_ok_lem w ≡ true
  pub columns : c# w ≡ c
  pub more : n# w < rows_of t c
  pub several : 2 ≤ rows_of t c
  pub on : off_circle_lem c (circles# w) t ≡ false
  pub space : room_of (rows_of t c) ≤ length room
  pub halves : length work ≡ 6 * rows_of t c
