-- The words of an index's header: 01, Index words. A working notion, on which no promise rests. Assumes nothing.
use Rattle.std.specs.Prelude.{ℕ, List, [], ◌∷◌}

-- the header's words: edition 2, n, c, m, l, the node count, distance kind 1, the set of circles
abbrev pub header_of : ℕ → ℕ → ℕ → ℕ → ℕ → ℕ → List ℕ
header_of n c o m l nodes = 2 ∷ n ∷ c ∷ m ∷ l ∷ nodes ∷ 1 ∷ o ∷ []
