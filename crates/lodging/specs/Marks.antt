-- The word of a mark, which stands in the place of a node's first child. A working notion, on which no promise rests. Assumes nothing.
use Rattle.std.specs.Prelude.{◌+◌, ℕ, ◌≢◌}
use Rattle.lodging.specs.declared.mark.Mark.TheVariants.{Old, Run, Stays}
use Rattle.lodging.specs.declared.mark.Mark.{Mark}

-- 0 for a run, one more than its number for an old node, and for a leaf that stays one a number that no node has
abbrev pub word_of : Mark → ℕ
word_of Run = 0
word_of Stays = 4294967295
word_of (Old o) = o + 1

-- an old node's word is not that of a leaf that stays one
abbrev pub Apart : Mark → Type 0
Apart Run = Unit {0}
Apart Stays = Unit {0}
Apart (Old o) = o + 1 ≢ 4294967295
