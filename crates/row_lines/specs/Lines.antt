-- A text of numbers, one to a line. A text is a list of bytes. Assumes nothing.
use Rattle.std.specs.Prelude.{◌-◌, ℕ, eqb, ltb, length, Bool, ◌&&◌, cond, not, List}
use Rattle.asking.specs.Pieces.{end_at, part_of, place_from}
use Rattle.asking.specs.Worth.{worth}
use Rattle.laws.specs.Lists.{any, range}
use Rattle.text_lines.specs.Lines.{line_at, line_start, text_start_lem}

-- ---- one line
-- where the first byte that is no blank stands, from place `at` on; the line's end where there is none
unfoldable pub past_blanks_lem : List ℕ → ℕ → ℕ
past_blanks_lem l at = place_from (λ (x : ℕ). not (eqb x 32)) l at

-- where the line's first word ends
unfoldable pub word_end : List ℕ → ℕ
word_end l = end_at 32 l (past_blanks_lem l 0)

-- the line is blanks alone
unfoldable pub is_blank_lem : List ℕ → Bool
is_blank_lem l = not (ltb (past_blanks_lem l 0) (length l))

-- the number that a line says: that of its only word; 10,000,000 where it says none
unfoldable pub line_says : List ℕ → ℕ
line_says l = cond (ltb (past_blanks_lem l (word_end l)) (length l)) 10_000_000 (worth (part_of l (past_blanks_lem l 0) (word_end l)))

-- ---- the lines of a text
-- where line i starts, from 0 on: the first behind the mark EF BB BF, if the text has it
unfoldable pub place_of : List ℕ → ℕ → ℕ
place_of t i = line_start t (text_start_lem t) i

-- line i, without its newline and a carriage return before that
unfoldable pub line_of : List ℕ → ℕ → List ℕ
line_of t i = line_at t (place_of t i)

-- line i is there and is not blank
unfoldable pub is_full : List ℕ → ℕ → Bool
is_full t i = ltb (place_of t i) (length t) && not (is_blank_lem (line_of t i))

-- line i, or one below it, is not blank: a text has no more lines than bytes
unfoldable pub any_full : List ℕ → ℕ → Bool
any_full t i = any (is_full t) (range i (length t - i))
