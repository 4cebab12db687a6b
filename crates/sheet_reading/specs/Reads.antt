-- What the reader leaves of a text. A working notion, on which no promise rests. Assumes nothing.
use Rattle.std.specs.Prelude.{ℕ, drop, length, List, ◌++◌, ◌≡◌}
use Rattle.laws.specs.Lists.{joined}
use Rattle.sheet_reading.specs.Says.{Told}
use Rattle.sheet_reading.specs.declared.Reader.{Reader}

-- it names what the text says is wrong, with line and column; the rows above the fault, or all, stand at the front of the table, which is as it was
-- behind them, and they are counted
pub record Reads (o : Told) (table : List ℕ) (s : Reader × List ℕ) : Type 0 where
  pub fault : s.0.fault ≡ o.kind
  pub line : (o.kind ≡ 0 → ⊥) → s.0.line ≡ o.line
  pub column : s.0.column ≡ o.column
  pub columns : s.0.columns ≡ o.columns
  pub rows : s.0.rows ≡ length o.rs
  pub put : s.0.put ≡ length (joined o.rs)
  pub content : s.1 ≡ joined o.rs ++ drop (length (joined o.rs)) table
