-- What a text says: its rows, or the first thing that is wrong with it, with line and column. Assumes nothing.
use Rattle.std.specs.Prelude.{◌+◌, min, ℕ, eqb, leb, ltb, length, Bool, ◌&&◌, cond, not, List, [], ◌∷◌}
use Rattle.sheet_fields.specs.Fields.{as_names, as_row}
use Rattle.sheet_reading.specs.Lines.{fields_of, lines, named, numbers}
use Rattle.line_reading.specs.Troubles.{none, trouble}
use Rattle.line_reading.specs.declared.Trouble.{Trouble}

-- ---- what is wrong with a line
-- there are rows or names above, and they have another count
unfoldable pub differs : ℕ → ℕ → Bool
differs columns count = not (eqb columns 0) && not (eqb columns count)

-- a row of `count` numbers behind those that were put: more than 16 (3), not as many as there are columns (4: at the first that is missing or too
-- many), more than 1,048,576 rows (5), no room in the table (6)
unfoldable pub row_trouble_lem : ℕ → ℕ → ℕ → ℕ → ℕ → Trouble
row_trouble_lem columns rows put count room =
    cond (ltb 16 count) (record { kind = 3; column = 17 })
    (cond (differs columns count) (record { kind = 4; column = min columns count + 1 })
    (cond (leb 1_048_576 rows) (record { kind = 5; column = 1 }) (cond (ltb room (put + count)) (record { kind = 6; column = 1 }) none)))

-- what is wrong in a field comes before what is wrong with the row
unfoldable pub or_row : Trouble → ℕ → ℕ → ℕ → ℕ → ℕ → Trouble
or_row t columns rows put count room = cond (eqb t.kind 0) (row_trouble_lem columns rows put count room) t

-- a line as a row, whose column `label` holds a label
unfoldable pub line_trouble : ℕ → ℕ → ℕ → ℕ → ℕ → List ℕ → Trouble
line_trouble label columns rows put room l = or_row (trouble (as_row label) 0 (fields_of l)) columns rows put (length (numbers label l)) room

-- ---- what a text says
-- what is wrong (0: nothing), in which line and column, how many columns there are, and the rows above the fault
pub record Told : Type 0 where
  pub kind : ℕ
  pub line : ℕ
  pub column : ℕ
  pub columns : ℕ
  pub rs : List (List ℕ)

-- t is wrong in a line
unfoldable pub stopped : Trouble → ℕ → ℕ → Told
stopped t line columns = record { kind = t.kind; line = line; column = t.column; columns = columns; rs = [] }

-- a line with the numbers ns and the trouble t, and what the lines below it say
unfoldable pub told_by : Trouble → ℕ → ℕ → List ℕ → Told → Told
told_by t line columns ns below =
    cond (eqb t.kind 0)
    (record { kind = below.kind; line = below.line; column = below.column; columns = below.columns; rs = ns ∷ below.rs })
    (stopped t line columns)

-- these lines, the first of which has this number, below `rows` rows with `put` numbers: a row a line; no rows at all are a fault (8)
unfoldable pub told : ℕ → ℕ → ℕ → ℕ → ℕ → ℕ → List (List ℕ) → Told
told label room line columns rows put [] =
    stopped (cond (eqb rows 0) (record { kind = 8; column = 1 }) none) line columns
told label room line columns rows put (l ∷ ls) =
    told_by (line_trouble label columns rows put room l) line columns (numbers label l)
    (told label room (line + 1) (length (numbers label l)) (rows + 1) (put + length (numbers label l)) ls)

-- names with the trouble t above these lines: as many as there are columns
unfoldable pub told_names : Trouble → ℕ → ℕ → ℕ → List (List ℕ) → Told
told_names t label room count ls = cond (eqb t.kind 0) (told label room 2 count 0 0 ls) (stopped t 1 0)

-- all lines of a text
unfoldable pub told_all : ℕ → ℕ → List (List ℕ) → Told
told_all label room [] = told label room 1 0 0 0 []
told_all label room (l ∷ ls) =
    cond (named l) (told_names (trouble as_names 0 (fields_of l)) label room (length (fields_of l)) ls) (told label room 1 0 0 0 (l ∷ ls))

-- WHAT A TEXT SAYS, read into a table with room for so many numbers, where the column `label` holds a label (0: none does)
unfoldable pub says : ℕ → ℕ → List ℕ → Told
says label room t = told_all label room (lines t)
