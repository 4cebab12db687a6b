-- What comes of a choice of columns, by its number, its row and its column. Assumes nothing.
use Rattle.std.specs.Prelude.{◌<◌, ℕ, List, Result, Ok, Err, ◌≡◌}
use Rattle.column_products.specs.Chosen.{over_in, over_row}
use Rattle.measure.specs.Table.{row}
use Rattle.columns.specs.declared.Unchosen.TheVariants.{NoChoice, TooGreat}
use Rattle.columns.specs.declared.Unchosen.{Unchosen}

-- 1 where it is none; 2 where a product is too great, with its row and its place among the chosen
abbrev pub said_by : Unchosen → ℕ × ℕ × ℕ
said_by NoChoice = (1, 0, 0)
said_by (TooGreat row# column) = (2, row#, column)

-- 0 where the columns are chosen
abbrev pub outcome : {A : Type 0} → Result A Unchosen → ℕ × ℕ × ℕ
outcome (Ok _) = (0, 0, 0)
outcome (Err u) = said_by u

-- the first row with a product that is too great, and its first such column
abbrev pub NamesProduct : List ℕ → ℕ → ℕ → ℕ → List ℕ → List ℕ → ℕ → Unchosen → Type 0
NamesProduct t c n o chosen factors k NoChoice = ⊥
NamesProduct t c n o chosen factors k (TooGreat row# column) =
    (row# < n) × (row# ≡ over_row t c o chosen factors k n) × (column ≡ over_in (row t c row#) o chosen factors k)
