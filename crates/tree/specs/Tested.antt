-- What a search or a pass may assume of an index and a table, once the call above it has tested them. A working notion, on which no promise rests.
-- Assumes nothing.
use Rattle.std.specs.Prelude.{◌*◌, ◌≤◌, ℕ, length, List, ◌≡◌}
use Rattle.limits.specs.Limits.{max_columns}
use Rattle.words.specs.InShape.{InShape}
use Rattle.words.specs.Words.{edition#, n#}

-- the index w is in shape and of edition 2, and the table T of c columns, few enough, has its rows
pub record Tested (w T : List ℕ) (c : ℕ) : Type 0 where
  pub shape : InShape w
  pub edition : edition# w ≡ 2
  pub table : c * n# w ≤ length T
  pub columns : c ≤ max_columns
