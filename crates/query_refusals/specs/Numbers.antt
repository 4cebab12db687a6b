-- The number that the queries of a call are refused with. Assumes nothing.
use Rattle.std.specs.Prelude.{◌%◌, ◌/◌, ℕ, eqb, ltb, length, Bool, ◌&&◌, ◌||◌, cond, List}
use Rattle.limits.specs.Limits.{max_rows, within}
use Rattle.measure.specs.Table.{off_circle_lem, rows_of}
use Rattle.rowset.specs.Sets.{set_bad_lem}

-- numbers for one query at least, no part of one, and no more queries than an index has rows, so that the sum of what they measure is a number
unfoldable pub asks : ℕ → ℕ → Bool
asks c asked = eqb (asked % c) 0 && within 1 max_rows (asked / c)

-- for n rows: 5 where how-bytes or marks are too few, 6 where the queries are not right, 19 where a circular column of a query holds 3,600 or more, 20
-- where the set of rows withdrawn is not one of n rows
unfoldable pub said_near : ℕ → ℕ → ℕ → ℕ → ℕ → Bool → Bool → ℕ
said_near n c asked how marks off bad = cond (ltb how n || ltb marks n) 5 (cond (asks c asked) (cond off 19 (cond bad 20 0)) 6)

-- the same of the queries and the set themselves
abbrev pub said_of : List ℕ → ℕ → ℕ → List ℕ → List ℕ → ℕ → ℕ → ℕ
said_of t c o qs s how marks = said_near (rows_of t c) c (length qs) how marks (off_circle_lem c o qs) (set_bad_lem s (rows_of t c))
