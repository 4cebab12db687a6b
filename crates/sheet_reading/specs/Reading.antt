-- A text of rows read byte by byte: the reader, and the table that it fills. Assumes nothing.
use Rattle.std.specs.Prelude.{◌+◌, ℕ, eqb, leb, Bool, ◌&&◌, cond, false, true, List, [], ◌∷◌}
use Rattle.sheet_reading.specs.Closing.{closed, failed, first_blank_lem}
use Rattle.line_reading.specs.InLine.{along, emptied}
use Rattle.sheet_fields.specs.Kinds.{kind_of}
use Rattle.sheet_reading.specs.declared.Reader.{Reader}
use Rattle.sheet_fields.specs.declared.Kind.TheVariants.{Other}
use Rattle.line_reading.specs.declared.Line.{Line}

-- before the first byte of a text whose column `label` holds a label (0: none does)
unfoldable pub begun : ℕ → Reader
begun label =
    record {
      mark = 0;
      held = false;
      line = 1;
      blank = 0;
      columns = 0;
      rows = 0;
      put = 0;
      fault = 0;
      column = 0;
      here = emptied label;
      label = label;
    }

-- the reader inside a line: with a carriage return held back or not
unfoldable pub inside : Reader → ℕ → Bool → Line → Reader
inside r mark held l =
    record {
      mark = mark;
      held = held;
      line = r.line;
      blank = r.blank;
      columns = r.columns;
      rows = r.rows;
      put = r.put;
      fault = r.fault;
      column = r.column;
      here = l;
      label = r.label;
    }

-- a carriage return that was held back is a byte as any other, since no newline follows it
unfoldable pub released : Reader → Line
released r = cond r.held (along r.here Other) r.here

-- one byte more of a text whose start was looked at: a newline, a carriage return, or any other
unfoldable pub read : Reader × List ℕ → ℕ → Reader × List ℕ
read s b =
    cond (eqb b 10) (closed s.0 s.1)
    (cond (eqb b 13) (inside s.0 s.0.mark true (released s.0), s.1)
    (inside s.0 s.0.mark false (along (released s.0) (kind_of b)), s.1))

-- ---- the mark EF BB BF
-- its bytes
unfoldable pub mark_byte_lem : ℕ → ℕ
mark_byte_lem k = cond (eqb k 0) 239 (cond (eqb k 1) 187 191)

-- the start was not the mark: what came of it, one byte or two, is bytes as any other
unfoldable pub unmarking : Reader → Reader
unmarking r = inside r 3 r.held (cond (eqb r.mark 0) r.here (along r.here Other))

-- one byte more of the text's start
unfoldable pub marking : Reader × List ℕ → ℕ → Reader × List ℕ
marking s b =
    cond (eqb b (mark_byte_lem s.0.mark)) (inside s.0 (s.0.mark + 1) s.0.held s.0.here, s.1) (read (unmarking s.0, s.1) b)

-- ---- the text
-- one byte more; behind a fault nothing changes
unfoldable pub next : Reader × List ℕ → ℕ → Reader × List ℕ
next s b = cond (eqb s.0.fault 0) (cond (leb 3 s.0.mark) (read s b) (marking s b)) s

-- the whole text
unfoldable pub run : Reader × List ℕ → List ℕ → Reader × List ℕ
run s [] = s
run s (b ∷ t) = run (next s b) t

-- a text without rows is a fault (8), in the line where the first row should stand
unfoldable pub ended : Reader → Reader
ended r =
    cond (eqb r.fault 0 && eqb r.rows 0)
    (failed r r.here (first_blank_lem r.blank r.line) (record { kind = 8; column = 1 })) r

-- the end of the text, which may lack its last newline
unfoldable pub finished : Reader × List ℕ → Reader × List ℕ
finished s = (ended (next s 10).0, (next s 10).1)
