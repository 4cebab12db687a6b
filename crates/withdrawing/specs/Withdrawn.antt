-- Which rows a text withdraws, and what is wrong with it. Assumes nothing.
use Rattle.std.specs.Prelude.{min, suc, ℕ, eqb, ltb, length, Bool, ◌&&◌, ◌||◌, cond, false, not, true, List, ◌≡◌}
use Rattle.column_products.specs.Chosen.{first_to}
use Rattle.laws.specs.Lists.{any, range}
use Rattle.rowset.specs.Sets.{is_in_lem, set_bad_lem, words_for_lem}
use Rattle.row_lines.specs.Lines.{any_full, is_full, line_of, line_says}
use Rattle.row_lines.specs.Rows.{row_trouble_lem}

-- what is wrong with line i of the text t: that of its number, or 3, it is blank and one below it is not; else 0
unfoldable pub line_trouble : ℕ → List ℕ → ℕ → ℕ
line_trouble n t i = cond (is_full t i) (row_trouble_lem n (line_says (line_of t i))) (cond (any_full t i) 3 0)

-- the first line with which something is wrong, or as many as the text has bytes
unfoldable pub wrong_line : ℕ → List ℕ → ℕ
wrong_line n t = first_to (λ i. not (eqb (line_trouble n t i) 0)) (length t)

-- line i says row r
unfoldable pub says_row : List ℕ → ℕ → ℕ → Bool
says_row t r i = is_full t i && eqb (line_says (line_of t i)) r

-- ONE OF THE FIRST k LINES SAYS ROW r
unfoldable pub is_said_lem : List ℕ → ℕ → ℕ → Bool
is_said_lem t k r = any (says_row t r) (range 0 k)

-- how many words the set of n rows takes of a room, as far as it has them
abbrev pub set_words : ℕ → List ℕ → ℕ
set_words n room = min (words_for_lem n) (length room)

-- for every text: the set of n rows before and after, what is wrong, and with which line, from 1 on
pub record Withdraws (t : List ℕ) (n : ℕ) (s s' : List ℕ) (wrong line : ℕ) : Type 0 where
  -- 20 where this is no set of n rows, which stays as it is
  pub unset : set_bad_lem s n ≡ true → (wrong ≡ 20) × (line ≡ 0) × (s' ≡ s)
  -- else what is wrong with the first line with which something is, and its number
  pub said : set_bad_lem s n ≡ false → wrong ≡ cond (ltb (wrong_line n t) (length t)) (line_trouble n t (wrong_line n t)) 0
  pub where# : set_bad_lem s n ≡ false → line ≡ cond (ltb (wrong_line n t) (length t)) (suc (wrong_line n t)) 0
  -- the rows that the lines above it say, or all lines, are in the set besides those that were
  pub rows : set_bad_lem s n ≡ false → (r : ℕ) → is_in_lem s' r ≡ (is_in_lem s r || is_said_lem t (wrong_line n t) r)
  pub right : set_bad_lem s n ≡ false → set_bad_lem s' n ≡ false
  pub long : length s' ≡ length s
