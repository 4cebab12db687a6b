-- A reader whose numbers are in order, as they are from the first byte on. A working notion, on which no promise rests. Assumes nothing.
use Rattle.std.specs.Prelude.{◌*◌, ◌≤◌, ℕ, length, ◌≡◌}
use Rattle.sheet_reading.specs.declared.Reader.{Reader}

-- what was put is `rows` rows of `columns` numbers, within the limits and within the room
pub record Tidy (room : ℕ) (r : Reader) : Type 0 where
  pub put : r.put ≡ r.columns * r.rows
  pub wide : r.columns ≤ 16
  pub few : r.rows ≤ 1_048_576
  pub space : r.put ≤ room
  -- before the first row there is none, and behind it a row has a number at least
  pub first : r.columns ≡ 0 → r.rows ≡ 0
  pub slots : length r.here.row ≡ 16
