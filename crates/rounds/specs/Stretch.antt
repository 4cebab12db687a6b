-- A part of some words. A working notion, on which no promise rests. Assumes nothing.
use Rattle.std.specs.Prelude.{◌-◌, ℕ, drop, take, List}

-- the words from lo to hi
abbrev pub stretch : List ℕ → ℕ → ℕ → List ℕ
stretch w lo hi = take (hi - lo) (drop lo w)
