-- Which rows have a label, told by what stands in their lines. Assumes nothing.
use Rattle.std.specs.Prelude.{◌+◌, suc, zero, ℕ, get_or, Bool, cond, List}
use Rattle.laws.specs.Lists.{same}
use Rattle.line_fields.specs.Fields.{field_in}
use Rattle.text_lines.specs.Lines.{line_from_lem}

-- the line that starts at place i of those kept has the label in the column
unfoldable pub labelled : List ℕ → List ℕ → ℕ → List ℕ → ℕ → Bool
labelled t starts column label i = same (field_in (line_from_lem t (get_or starts i 0)) column) label

-- how many of the first k pass the test
unfoldable pub hits_to : (ℕ → Bool) → ℕ → ℕ
hits_to f zero = 0
hits_to f (suc i) = hits_to f i + cond (f i) 1 0

-- the last of the first k that does, 0 where none does
unfoldable pub last_to : (ℕ → Bool) → ℕ → ℕ
last_to f zero = 0
last_to f (suc i) = cond (f i) i (last_to f i)
