-- The workspace of a nearest search, 6n words for n rows: 2n for the frontier, n for the distances of centres by row, 2n for the answers, and n for
-- the rows measured. A working notion, on which no promise rests. Assumes nothing.
use Rattle.std.specs.Prelude.{◌*◌, ◌+◌, ℕ, get_or, List}

-- where the distances stand, behind the frontier, which stands in front
abbrev pub distances_at : ℕ → ℕ
distances_at n = 2 * n

-- where the answers stand
abbrev pub answers_at : ℕ → ℕ
answers_at n = 3 * n

-- where the rows measured stand
abbrev pub met_at : ℕ → ℕ
met_at n = 5 * n

-- how many words there are
abbrev pub work_words : ℕ → ℕ
work_words n = 6 * n

-- the distance kept for row r, where it is a centre that is measured
abbrev pub kept : List ℕ → ℕ → ℕ → ℕ
kept work n r = get_or work (distances_at n + r) 0
