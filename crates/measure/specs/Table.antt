-- A lent table of c columns, of which the set o are circles: its rows, and how far they are apart. Assumes nothing.
use Rattle.std.specs.Prelude.{◌*◌, ◌+◌, ◌/◌, ◌<◌, ℕ, leb, drop, get_or, length, take, Bool, ◌&&◌, true, List, ◌≡◌}
use Rattle.laws.specs.Lists.{any, range}
use Rattle.measure.specs.Distance.{circle, is_circle_lem, l1}

-- 01, What the library holds: row i is the part of the table that starts at c times i
abbrev pub row : List ℕ → ℕ → ℕ → List ℕ
row T c i = take c (drop (c * i) T)

-- how many rows the table has
abbrev pub rows_of : List ℕ → ℕ → ℕ
rows_of T c = length T / c

-- the distance of two of its rows
unfoldable pub between : List ℕ → ℕ → ℕ → ℕ → ℕ → ℕ
between T c o i j = l1 c o (row T c i) (row T c j)

-- the distance of a query from one of its rows
unfoldable pub from : List ℕ → ℕ → ℕ → List ℕ → ℕ → ℕ
from T c o q i = l1 c o q (row T c i)

-- column j holds 3,600 or more in one of the first n rows
abbrev pub column_off_lem : List ℕ → ℕ → ℕ → ℕ → Bool
column_off_lem T c n j = any (λ i. leb circle (get_or T (c * i + j) 0)) (range 0 n)

-- 02, R-1, 19: a column that is a circle holds 3,600 or more
unfoldable pub off_circle_lem : ℕ → ℕ → List ℕ → Bool
off_circle_lem c o T = any (λ j. is_circle_lem o j && column_off_lem T c (rows_of T c) j) (range 0 c)

-- a row whose circular columns hold numbers of the circle
abbrev pub Round : ℕ → ℕ → List ℕ → Type 0
Round c o a = (j : ℕ) → j < c → is_circle_lem o j ≡ true → get_or a j 0 < circle

-- every row of the table is such a one: this is what the triangle inequality asks, and what 0 of a call says
abbrev pub Rounded : List ℕ → ℕ → ℕ → Type 0
Rounded T c o = (i : ℕ) → Round c o (row T c i)
