-- An edition 1 index made edition 2: 02, R-4; since R-11 no call, but what reading an edition 1 card means. Over the distance d between rows.
-- Assumes nothing.
use Rattle.std.specs.Prelude.{ℕ, List, [], ◌++◌, ◌∷◌, map}
use Rattle.laws.specs.Lists.{each, range}
use Rattle.tree.specs.Check.{nearest#}
use Rattle.tree.specs.Encode.{Node, node_words, pair_words}
use Rattle.words.specs.Words.{nodes#, c#, child#, circles#, count#, dist#, kind#, l#, m#, n#, radius#, row#, start#}

-- node k with the least distance of a member other than its first for its inner reach
abbrev pub widened : (ℕ → ℕ → ℕ) → List ℕ → ℕ → Node
widened d w k = (start# w k, count# w k, child# w k, record { outer = radius# w k; inner = nearest# d w k })

-- each node gets its inner reach for a fifth word; all else stays
unfoldable pub widen : (ℕ → ℕ → ℕ) → List ℕ → List ℕ
widen d w =
    (2 ∷ n# w ∷ c# w ∷ m# w ∷ l# w ∷ nodes# w ∷ kind# w ∷ circles# w ∷ [])
    ++ (each (node_words 2) (map (widened d w) (range 0 (nodes# w))) ++ each pair_words (map (λ p. (row# w p, dist# w p)) (range 0 (n# w))))
