-- The table of the chosen columns, each times its factor. Assumes nothing.
use Rattle.std.specs.Prelude.{◌*◌, ◌<◌, ◌≤◌, suc, zero, ℕ, leb, ltb, drop, get_or, length, Bool, ◌&&◌, cond, List, [], ◌++◌, ◌∷◌, ◌≡◌}
use Rattle.laws.specs.Lists.{gap}
use Rattle.limits.specs.Limits.{columns_ok_lem, max_columns, within}
use Rattle.measure.specs.Distance.{around, is_circle_lem}
use Rattle.measure.specs.Table.{row}

-- ---- lists by a function
-- f 0, f 1, .. f (k - 1)
unfoldable pub items_of : (ℕ → ℕ) → ℕ → List ℕ
items_of f zero = []
items_of f (suc k) = items_of f k ++ (f k ∷ [])

-- the rows f 0, f 1, .. f (n - 1), one after the other
unfoldable pub rows_by : (ℕ → List ℕ) → ℕ → List ℕ
rows_by f zero = []
rows_by f (suc n) = rows_by f n ++ f n

-- the first number below k that passes, or k
unfoldable pub first_to : (ℕ → Bool) → ℕ → ℕ
first_to f zero = 0
first_to f (suc k) = cond (ltb (first_to f k) k) (first_to f k) (cond (f k) k (suc k))

-- ---- the chosen columns
-- column j of those chosen: the number that the row has there, times the factor
abbrev pub times_factor : List ℕ → List ℕ → List ℕ → ℕ → ℕ
times_factor r chosen factors j = get_or r (get_or chosen j 0) 0 * get_or factors j 0

-- THE ROW OF THE k CHOSEN COLUMNS, in the order chosen, each times its factor
unfoldable pub chosen_row_lem : List ℕ → List ℕ → List ℕ → ℕ → List ℕ
chosen_row_lem r chosen factors k = items_of (times_factor r chosen factors) k

-- THE TABLE OF THESE: of each of the n rows of the table t of c columns
unfoldable pub chosen_table : List ℕ → ℕ → List ℕ → List ℕ → ℕ → ℕ → List ℕ
chosen_table t c chosen factors k n = rows_by (λ i. chosen_row_lem (row t c i) chosen factors k) n

-- what two numbers of a column are apart with its factor: the shorter way round of the products where it is a circle, else the factor times what they differ
abbrev pub apart_by : Bool → ℕ → ℕ → ℕ → ℕ
apart_by round f a b = cond round (around (a * f) (b * f)) (f * gap a b)

-- ---- what is wrong
-- the first of the chosen columns that is not one of c, or k
unfoldable pub outside : ℕ → List ℕ → ℕ → ℕ
outside c chosen k = first_to (λ j. leb c (get_or chosen j 0)) k

-- 1 to 16 columns, 1 to c of them chosen, n rows in a table of this length, each chosen column one of c
unfoldable pub fitting : ℕ → ℕ → ℕ → List ℕ → ℕ → Bool
fitting long c n chosen k = columns_ok_lem c && (within 1 c k && (leb (c * n) long && leb k (outside c chosen k)))

-- the greatest product that may stand at place j of the chosen columns, of which the set o are circles: the last tenth of a degree, or what a table holds
abbrev pub most : ℕ → ℕ → ℕ
most o j = cond (is_circle_lem o j) 3_599 65_535

-- the first chosen column of a row whose product is above that, or k
unfoldable pub over_in : List ℕ → ℕ → List ℕ → List ℕ → ℕ → ℕ
over_in r o chosen factors k = first_to (λ j. ltb (most o j) (times_factor r chosen factors j)) k

-- the first row that has one, or n
unfoldable pub over_row : List ℕ → ℕ → ℕ → List ℕ → List ℕ → ℕ → ℕ → ℕ
over_row t c o chosen factors k n = first_to (λ i. ltb (over_in (row t c i) o chosen factors k) k) n

-- ---- the call
-- for every input: the table before and after, the places among the chosen that are circles, the number, the row and the column
pub record Chooses (t t' : List ℕ) (c n o : ℕ) (chosen factors : List ℕ) (k number row# column : ℕ) : Type 0 where
  -- 1 where this is no choice, 2 where a product is above 65,535, or above 3,599 in a circle, else 0
  pub said : number ≡ cond (fitting (length t) c n chosen k) (cond (ltb (over_row t c o chosen factors k n) n) 2 0) 1
  -- 2 names the first such row, and its first such column by its place among the chosen
  pub where# : number ≡ 2 → (row# ≡ over_row t c o chosen factors k n) × (column ≡ over_in (row t c row#) o chosen factors k)
  pub nowhere : (number ≡ 2 → ⊥) → (row# ≡ 0) × (column ≡ 0)
  -- on 0 the table of the chosen columns stands at the front, and behind it the table is as it was; a refusal changes nothing
  pub done : number ≡ 0 → t' ≡ chosen_table t c chosen factors k n ++ drop (k * n) t
  pub refused : (number ≡ 0 → ⊥) → t' ≡ t

-- A working notion: columns chosen of a row of this length
pub record Choice (long : ℕ) (chosen : List ℕ) (k : ℕ) : Type 0 where
  pub few : k ≤ max_columns
  pub inside : (j : ℕ) → j < k → get_or chosen j 0 < long

-- A working notion: the products of a row are numbers that a table holds
abbrev pub Small : List ℕ → List ℕ → List ℕ → ℕ → Type 0
Small r chosen factors k = (j : ℕ) → j < k → times_factor r chosen factors j ≤ 65_535

-- and so are those of n rows
abbrev pub SmallRows : List ℕ → ℕ → List ℕ → List ℕ → ℕ → ℕ → Type 0
SmallRows t c chosen factors k n = (i : ℕ) → i < n → Small (row t c i) chosen factors k
