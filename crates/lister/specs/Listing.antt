-- What the listing leaves: the build of the numbers that were read, and these are the text's. Assumes nothing.
use Rattle.std.specs.Prelude.{◌≤◌, ℕ, drop, get_or, length, take, List, ◌≡◌}
use Rattle.build.specs.Calls.{Builds}
use Rattle.text_reading.specs.Calls.{Reads}

-- the numbers ns are c, m and l, and then a table: its index is built in edition 2 with no circle, and the number is the build's
pub record Lists (ns room room' work work' : List ℕ) (number : ℕ) : Type 0 where
  pub words : ℕ
  pub nodes : ℕ
  pub built : Builds (drop 3 ns) (get_or ns 0 0) 0 2 (get_or ns 1 0) (get_or ns 2 0) room work room' work' number words nodes

-- the first `kept` bytes of the text are what is read, as numbers
pub record Runs (text numbers numbers' room room' work work' : List ℕ) (number : ℕ) : Type 0 where
  pub kept : ℕ
  pub reading : ℕ
  pub count : ℕ
  pub inside : kept ≤ length text
  pub reads : Reads (take kept text) numbers numbers' reading count
  -- a text that can't be read is the answer, and no index is built
  pub refused : (reading ≡ 0 → ⊥) → (number ≡ reading) × (room' ≡ room) × (work' ≡ work)
  -- else its numbers are listed
  pub listed : reading ≡ 0 → Lists (take count numbers') room room' work work' number
