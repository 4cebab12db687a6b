-- A digit as a byte. A working notion, on which no promise rests. Assumes nothing.
use Rattle.std.specs.Prelude.{◌+◌, ℕ, ltb, cond}

-- the byte of a decimal digit, and a question mark for any greater number
abbrev pub digit_of : ℕ → ℕ
digit_of x = cond (ltb x 10) (x + 48) 63
