-- What a list of words and a list of bytes is. A working notion, on which no promise rests. Assumes nothing.
use Rattle.std.specs.Prelude.{◌<◌, ℕ, List}
use Rattle.words.specs.Words.{at}

-- every entry is below k: 2 ^ 32 for words, 256 for bytes
abbrev pub Below : ℕ → List ℕ → Type 0
Below k l = (p : ℕ) → at l p < k
