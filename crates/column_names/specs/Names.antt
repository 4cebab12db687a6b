-- Which column a word says: by its number from 1, or by its name in the line of names. Assumes nothing.
use Rattle.std.specs.Prelude.{◌-◌, ◌≤◌, suc, zero, ℕ, eqb, ltb, Bool, ◌&&◌, ◌||◌, cond, List, Result, Ok, Err}
use Rattle.column_names.specs.declared.NameFault.TheVariants.{NoColumn, TwoColumns}
use Rattle.column_names.specs.declared.NameFault.{NameFault}
use Rattle.asking.specs.Worth.{worth}
use Rattle.laws.specs.Lists.{same}
use Rattle.line_fields.specs.Fields.{field_in, span_of}

-- the line has a field in this column, from 1 on, and it is the name
unfoldable pub is_named : List ℕ → List ℕ → ℕ → Bool
is_named l name column = ltb (span_of l (column - 1)).0 (span_of l (column - 1)).1 && same (field_in l column) name

-- the column found so far, or this one, if it has the name: 17 where two have it
unfoldable pub with_name : List ℕ → List ℕ → ℕ → ℕ → ℕ
with_name l name found column = cond (is_named l name column) (cond (eqb found 0) column 17) found

-- the column of the first k that has the name: 0 where none has it, 17 where two or more have
unfoldable pub named_to : List ℕ → List ℕ → ℕ → ℕ
named_to l name zero = 0
named_to l name (suc k) = with_name l name (named_to l name k) (suc k)

-- THE COLUMN THAT A WORD SAYS, of c columns with these names: 0 where there is none, 17 where two have the name
unfoldable pub column_said_lem : List ℕ → List ℕ → ℕ → ℕ
column_said_lem names word c = cond (ltb (worth word) 10_000_000) (cond (ltb 16 (worth word) || ltb c (worth word)) 0 (worth word)) (named_to names word 16)

-- the same of a column that was found, or was not
abbrev pub told : Result ℕ NameFault → ℕ
told (Ok column) = column
told (Err NoColumn) = 0
told (Err TwoColumns) = 17

-- a column of a line, from 1 on
abbrev pub InLine : ℕ → Type 0
InLine column = (1 ≤ column) × (column ≤ 16)
