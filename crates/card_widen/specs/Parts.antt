-- The widened words, part by part, as far as they are written. Over the distance d between rows. A working notion, on which no promise rests. Assumes
-- nothing.
use Rattle.std.specs.Prelude.{◌*◌, ◌+◌, ℕ, drop, List, ◌++◌, map}
use Rattle.laws.specs.Lists.{each, range}
use Rattle.tree.specs.Encode.{node_words, pair_words}
use Rattle.tree.specs.Widen.{widen, widened}
use Rattle.words.specs.Words.{nodes#, dist#, header_words, n#, row#}

-- the words of the first k nodes, widened
unfoldable pub nodes_to : (ℕ → ℕ → ℕ) → List ℕ → ℕ → List ℕ
nodes_to d w k = each (node_words 2) (map (widened d w) (range 0 k))

-- the words of the first p positions
unfoldable pub pairs_to : List ℕ → ℕ → List ℕ
pairs_to w p = each pair_words (map (λ q. (row# w q, dist# w q)) (range 0 p))

-- a part with all nodes' words, widened, at its front
abbrev pub with_nodes : (ℕ → ℕ → ℕ) → List ℕ → List ℕ → List ℕ
with_nodes d w part = nodes_to d w (nodes# w) ++ drop (5 * nodes# w) part

-- and one with all positions' words
abbrev pub with_pairs : List ℕ → List ℕ → List ℕ
with_pairs w part = pairs_to w (n# w) ++ drop (2 * n# w) part

-- how many words the widened index has
abbrev pub wide_long : List ℕ → ℕ
wide_long w = header_words + 5 * nodes# w + 2 * n# w

-- a room with the widened index at its front
abbrev pub with_wide : (ℕ → ℕ → ℕ) → List ℕ → List ℕ → List ℕ
with_wide d w room = widen d w ++ drop (wide_long w) room
