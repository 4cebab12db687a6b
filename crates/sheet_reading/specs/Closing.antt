-- What a newline does: the line is blank, or names, or a row, or can't be taken. Assumes nothing.
use Rattle.std.specs.Prelude.{◌+◌, ℕ, eqb, ltb, length, Bool, ◌&&◌, cond, false, not, List}
use Rattle.line_reading.specs.InLine.{bare, emptied, settled}
use Rattle.line_reading.specs.Troubles.{none}
use Rattle.sheet_reading.specs.Says.{or_row}
use Rattle.sheet_reading.specs.declared.Reader.{Reader}
use Rattle.line_reading.specs.declared.Line.{Line}
use Rattle.line_reading.specs.declared.Trouble.{Trouble}
use Rattle.std.proofs.Math.Seq.{paste}

-- ---- what the line is
-- it is the first, and no field began with a digit, a sign or a point
unfoldable pub titles : Reader → Line → Bool
titles r l = eqb r.line 1 && not l.figure

-- names: at most 16
unfoldable pub or_wide : Trouble → ℕ → Trouble
or_wide t count = cond (eqb t.kind 0) (cond (ltb 16 count) (record { kind = 3; column = 17 }) none) t

-- what is wrong with a line that has ended
unfoldable pub end_trouble : Reader → Line → ℕ → Trouble
end_trouble r l room =
    cond (titles r l) (or_wide l.names l.count) (or_row l.numbers r.columns r.rows r.put l.count room)

-- ---- what becomes of the reader
-- the number of the next line; 2^64 - 1 is the last
unfoldable pub counted : ℕ → ℕ
counted line = cond (ltb line 18_446_744_073_709_551_615) (line + 1) line

-- the first of blank lines is remembered
unfoldable pub first_blank_lem : ℕ → ℕ → ℕ
first_blank_lem blank line = cond (eqb blank 0) line blank

-- behind a line, with so many columns, rows and numbers
unfoldable pub onward : Reader → ℕ → ℕ → ℕ → ℕ → Reader
onward r blank columns rows put =
    record {
      mark = r.mark;
      held = false;
      line = counted r.line;
      blank = blank;
      columns = columns;
      rows = rows;
      put = put;
      fault = r.fault;
      column = r.column;
      here = emptied r.label;
      label = r.label;
    }

-- at a line that can't be taken
unfoldable pub failed : Reader → Line → ℕ → Trouble → Reader
failed r l line t =
    record {
      mark = r.mark;
      held = false;
      line = line;
      blank = r.blank;
      columns = r.columns;
      rows = r.rows;
      put = r.put;
      fault = t.kind;
      column = t.column;
      here = l;
      label = r.label;
    }

-- a line in which nothing is wrong: names, above all rows, or a row that is put behind the others
unfoldable pub accepted : Reader → Line → List ℕ → Reader × List ℕ
accepted r l table =
    cond (titles r l) (onward r 0 l.count 0 0, table)
    (onward r 0 l.count (r.rows + 1) (r.put + l.count), paste table r.put l.row l.count)

-- a line that ended as l, with the trouble t
unfoldable pub decided : Reader → Line → Trouble → List ℕ → Reader × List ℕ
decided r l t table = cond (eqb t.kind 0) (accepted r l table) (failed r l r.line t, table)

-- the same, with its trouble
abbrev pub weighed : Reader → Line → List ℕ → Reader × List ℕ
weighed r l table = decided r l (end_trouble r l (length table)) table

-- a line that is not blank: a blank one above it is an empty field (7)
unfoldable pub judged : Reader → Line → List ℕ → Reader × List ℕ
judged r l table =
    cond (eqb r.blank 0) (weighed r l table) (failed r l r.blank (record { kind = 7; column = 1 }), table)

-- a newline: what becomes of the reader and the table
unfoldable pub closed : Reader → List ℕ → Reader × List ℕ
closed r table =
    cond (bare r.here) (onward r (first_blank_lem r.blank r.line) r.columns r.rows r.put, table)
    (judged r (settled r.here) table)
