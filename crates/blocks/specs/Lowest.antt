-- The blocks whose check word is wrong, and the lowest of them. A working notion, on which no promise rests. Assumes nothing.
use Rattle.std.specs.Prelude.{ℕ, not, List, [], ◌∷◌, Option, None, Some}
use Rattle.blocks.specs.Blocks.{block_good_lem}
use Rattle.laws.specs.Lists.{keep, range}

-- of the k blocks from b on, those whose check word is wrong
abbrev pub wrong_blocks : List ℕ → ℕ → ℕ → List ℕ
wrong_blocks i b k = keep (λ b. not (block_good_lem i b)) (range b k)

-- the first of the list, if there is one
abbrev pub lowest : List ℕ → Option ℕ
lowest [] = None
lowest (b ∷ bs) = Some b
