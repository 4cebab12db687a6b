-- The distance of two rows: 01, What the library holds, and 02, R-1. Assumes nothing.
use Rattle.std.specs.Prelude.{◌%◌, ◌+◌, ◌-◌, ◌/◌, ◌^◌, min, ℕ, eqb, get_or, Bool, cond, List}
use Rattle.laws.specs.Lists.{gap}
use Rattle.laws.specs.Upto.{sum_to}
use Rattle.limits.specs.Limits.{max_distance}

-- 02, R-1: how many tenths of a degree go round
abbrev pub circle : ℕ
circle = 3_600

-- the set of bits o says that column j is a circle
abbrev pub is_circle_lem : ℕ → ℕ → Bool
is_circle_lem o j = eqb (o / 2 ^ j % 2) 1

-- on a circle, how far two of its numbers are apart the shorter way round
abbrev pub around : ℕ → ℕ → ℕ
around x y = min (gap x y) (circle - gap x y)

-- the distance of two numbers of one column: the shorter way round where it is a circle, else how much they differ
abbrev pub apart : Bool → ℕ → ℕ → ℕ
apart round x y = cond round (around x y) (gap x y)

-- the distance of two rows of c columns, of which the set o are circles: the sum of what their columns are apart
unfoldable pub l1 : ℕ → ℕ → List ℕ → List ℕ → ℕ
l1 c o a b = sum_to (λ j. apart (is_circle_lem o j) (get_or a j 0) (get_or b j 0)) c

-- 02, R-8: a distance as measuring gives it under a ceiling: itself where it is at most that, else one more than the ceiling
abbrev pub capped : ℕ → ℕ → ℕ
capped k d = min d (min k max_distance + 1)
