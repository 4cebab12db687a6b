-- What a search on words known to be right leans on. A working notion, on which no promise rests. Assumes nothing.
use Rattle.std.specs.Prelude.{◌<◌, ◌≤◌, ℕ, length, List, ◌≡◌}
use Rattle.tree.specs.Tested.{Tested}
use Rattle.words.specs.Words.{n#}

-- how-bytes are lent for each row of the index w, or none
abbrev pub Bytes : List ℕ → List ℕ → Type 0
Bytes w h = 0 < length h → n# w ≤ length h

-- the index w and the table T are tested, and the query q and the how-bytes h fit them
pub record Lent (w T : List ℕ) (c : ℕ) (q h : List ℕ) : Type 0 where
  pub tested : Tested w T c
  pub query : length q ≡ c
  pub how : Bytes w h
