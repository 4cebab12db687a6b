-- What the call promises: 02, R-2. Assumes nothing.
use Rattle.std.specs.Prelude.{ℕ, List}
use Rattle.append.specs.Calls.{Grows}
use Rattle.append_rows_refusals.specs.Numbers.{said_append_rows}
use Rattle.swelling.specs.Rows.{appended_rows}

-- append_rows: the index with all of the table's rows in it that it has not is written, as an append writes that of one row
abbrev pub AppendsRows : List ℕ → ℕ → List ℕ → List ℕ → List ℕ → List ℕ → List ℕ → ℕ → ℕ → ℕ → Type 0
AppendsRows T c w room work room' work' number words nodes = Grows said_append_rows appended_rows T c w room work room' work' number words nodes
