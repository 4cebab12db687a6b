-- Where the lines of a text stand. A text is a list of bytes. Assumes nothing.
use Rattle.std.specs.Prelude.{◌+◌, ◌-◌, min, suc, zero, ℕ, eqb, leb, ltb, drop, get_or, length, Bool, ◌&&◌, cond, List, [], ◌++◌, ◌∷◌}
use Rattle.asking.specs.Pieces.{cut, end_at}

-- the text's first bytes are EF BB BF
unfoldable pub marked : List ℕ → Bool
marked t = eqb (get_or t 0 0) 239 && (eqb (get_or t 1 0) 187 && eqb (get_or t 2 0) 191)

-- behind these bytes, if the text has them
unfoldable pub text_start_lem : List ℕ → ℕ
text_start_lem t = cond (leb 3 (length t) && marked t) 3 0

-- where the line at `at` ends: at its newline or at the text's end, and before a carriage return that stands there
unfoldable pub body_end_lem : List ℕ → ℕ → ℕ
body_end_lem t at = cond (ltb at (end_at 10 t at) && eqb (get_or t (end_at 10 t at - 1) 0) 13) (end_at 10 t at - 1) (end_at 10 t at)

-- the line at `at`
unfoldable pub line_at : List ℕ → ℕ → List ℕ
line_at t at = cut t at (body_end_lem t at)

-- the line at a place that was kept; nothing at a place behind the text
abbrev pub line_from_lem : List ℕ → ℕ → List ℕ
line_from_lem t start = line_at t (min start (length t))

-- where the next line starts: behind the newline, or at the text's end
unfoldable pub next_line_lem : List ℕ → ℕ → ℕ
next_line_lem t at = cond (ltb (end_at 10 t at) (length t)) (end_at 10 t at + 1) (end_at 10 t at)

-- where line i starts, of which line 0 starts at `from`
unfoldable pub line_start : List ℕ → ℕ → ℕ → ℕ
line_start t from zero = from
line_start t from (suc i) = next_line_lem t (line_start t from i)

-- where each of the first n lines starts
unfoldable pub line_starts : List ℕ → ℕ → ℕ → List ℕ
line_starts t from zero = []
line_starts t from (suc i) = line_starts t from i ++ line_start t from i ∷ []

-- these places can be kept: they are 32-bit numbers, and there is room
unfoldable pub keeps : List ℕ → ℕ → ℕ → ℕ → Bool
keeps t from room n = leb from (length t) && (leb (length t) 4_294_967_295 && leb n room)

-- the room with the places in it, if they can be kept
unfoldable pub kept : List ℕ → ℕ → List ℕ → ℕ → List ℕ
kept t from room n = cond (keeps t from (length room) n) (line_starts t from n ++ drop n room) room
