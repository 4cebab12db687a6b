-- What a call says that appends several rows: 02, R-1 and R-2. Assumes nothing.
use Rattle.std.specs.Prelude.{ℕ, leb, List}
use Rattle.append_refusals.specs.Numbers.{grow_faults}
use Rattle.limits.specs.Said.{Said, said}
use Rattle.measure.specs.Table.{rows_of}
use Rattle.words.specs.Words.{n#}

-- append_rows: the index is to have as many rows as its header says, and the table at least one more, else 8. `room` and `work` are the lengths of
-- what is lent
unfoldable pub said_append_rows : List ℕ → ℕ → List ℕ → ℕ → ℕ → Said
said_append_rows T c w room work = said (grow_faults T c w room work (leb (rows_of T c) (n# w)) (n# w))
