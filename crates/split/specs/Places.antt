-- Where a build grows the nodes: at the width of edition 2, whatever stood in the room before. A working notion, on which no promise rests. Assumes
-- nothing.
use Rattle.std.specs.Prelude.{◌*◌, ◌+◌, ℕ, List}
use Rattle.words.specs.Words.{at, header_words, width}

-- where node k's words stand
abbrev pub node_at_lem : ℕ → ℕ
node_at_lem k = header_words + width 2 * k

-- where its run starts
abbrev pub start# : List ℕ → ℕ → ℕ
start# w k = at w (node_at_lem k)

-- how many rows it has
abbrev pub count# : List ℕ → ℕ → ℕ
count# w k = at w (node_at_lem k + 1)

-- its first child's number, 0 for a leaf
abbrev pub child# : List ℕ → ℕ → ℕ
child# w k = at w (node_at_lem k + 2)
