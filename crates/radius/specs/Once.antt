-- An index in which each row stands once: where marks may be read by row number. A working notion, on which no promise rests. Assumes nothing.
use Rattle.std.specs.Prelude.{◌<◌, ℕ, false, List, ◌≡◌}
use Rattle.tree.specs.Check.{again}
use Rattle.words.specs.Words.{n#}

-- each row stands once: no position holds a row number that stands before it
abbrev pub Once : List ℕ → Type 0
Once w = (p : ℕ) → p < n# w → again w p ≡ false
