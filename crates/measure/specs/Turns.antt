-- One sum for both kinds of column: a plain column counts as a circle so wide that the way round is never the shorter. A working notion, on which no
-- promise rests. Assumes nothing.
use Rattle.std.specs.Prelude.{ℕ, cond}
use Rattle.measure.specs.Distance.{circle, is_circle_lem}

-- how many go round in column j
abbrev pub turn_of : ℕ → ℕ → ℕ
turn_of o j = cond (is_circle_lem o j) circle 131_070
