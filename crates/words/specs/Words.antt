-- The index words: 01, The tree, Index words. What names a word is an abbreviation, so that goals show its place; what is long or recurses is
-- `unfoldable`. Assumes nothing.
use Rattle.std.specs.Prelude.{◌*◌, ◌+◌, ◌-◌, suc, zero, ℕ, eqb, leb, get_or, length, Bool, ◌&&◌, cond, List}
use Rattle.laws.specs.Lists.{range}
use Rattle.limits.specs.Limits.{circles_ok_lem, columns_ok_lem, edition_ok_lem, max_rows, share_ok_lem, within}

-- word i, 0 past the end
abbrev pub at : List ℕ → ℕ → ℕ
at w i = get_or w i 0

-- ---- the header's eight words: edition, n, c, m, l, node count N, distance kind, and the set of circles
-- how many they are
abbrev pub header_words : ℕ
header_words = 8

-- the edition, 1 or 2
abbrev pub edition# : List ℕ → ℕ
edition# w = at w 0

-- how many rows
abbrev pub n# : List ℕ → ℕ
n# w = at w 1

-- how many columns
abbrev pub c# : List ℕ → ℕ
c# w = at w 2

-- how many centres an inner node has
abbrev pub m# : List ℕ → ℕ
m# w = at w 3

-- the leaf size
abbrev pub l# : List ℕ → ℕ
l# w = at w 4

-- how many nodes
abbrev pub nodes# : List ℕ → ℕ
nodes# w = at w 5

-- the distance kind, 1
abbrev pub kind# : List ℕ → ℕ
kind# w = at w 6

-- 02, R-1: the columns that are circles, a bit for each
abbrev pub circles# : List ℕ → ℕ
circles# w = at w 7

-- how many nodes n rows can have: none for none, else 1 to 2n - 1
abbrev pub nodes_ok_lem : ℕ → ℕ → Bool
nodes_ok_lem zero N = eqb N 0
nodes_ok_lem (suc n) N = within 1 (2 * suc n - 1) N

-- a header is possible on a card, which may be of either edition (02, R-11)
unfoldable pub card_ok_lem : List ℕ → Bool
card_ok_lem w =
    edition_ok_lem (edition# w) && leb (n# w) max_rows && columns_ok_lem (c# w) && share_ok_lem (m# w) (l# w)
    && nodes_ok_lem (n# w) (nodes# w) && eqb (kind# w) 1 && circles_ok_lem (c# w) (circles# w)

-- the header is not impossible: edition 2, and possible on a card
unfoldable pub header_ok_lem : List ℕ → Bool
header_ok_lem w = eqb (edition# w) 2 && card_ok_lem w

-- ---- the nodes, `width` words each after the header: start, count, first child's number (0 for a leaf), radius, and in edition 2 the inner reach
-- how many words a node has: 4 in edition 1, 5 in edition 2
abbrev pub width : ℕ → ℕ
width e = 3 + e

-- where node k's words stand
abbrev pub node_at_lem : List ℕ → ℕ → ℕ
node_at_lem w k = header_words + width (edition# w) * k

-- where node k's run starts
abbrev pub start# : List ℕ → ℕ → ℕ
start# w k = at w (node_at_lem w k)

-- how many rows it has
abbrev pub count# : List ℕ → ℕ → ℕ
count# w k = at w (node_at_lem w k + 1)

-- its first child's number, 0 for a leaf
abbrev pub child# : List ℕ → ℕ → ℕ
child# w k = at w (node_at_lem w k + 2)

-- its radius
abbrev pub radius# : List ℕ → ℕ → ℕ
radius# w k = at w (node_at_lem w k + 3)

-- 02, R-4: what an edition keeps of an inner reach: edition 1 has none, which is as good as 0
abbrev pub kept : ℕ → ℕ → ℕ
kept e i = cond (eqb e 2) i 0

-- its inner reach
abbrev pub inner# : List ℕ → ℕ → ℕ
inner# w k = kept (edition# w) (at w (node_at_lem w k + 4))

-- ---- the positions, two words each after the nodes: row number, distance from its leaf's first
-- where position p's words stand
abbrev pub pair_at : List ℕ → ℕ → ℕ
pair_at w p = node_at_lem w (nodes# w) + 2 * p

-- the row number at position p
abbrev pub row# : List ℕ → ℕ → ℕ
row# w p = at w (pair_at w p)

-- the stored distance at position p
abbrev pub dist# : List ℕ → ℕ → ℕ
dist# w p = at w (pair_at w p + 1)

-- how many words the header asks for: 8 + 4N + 2n, or 8 + 5N + 2n in edition 2
abbrev pub words_of_lem : List ℕ → ℕ
words_of_lem w = pair_at w (n# w)

-- a header is there and possible, and no word is missing
unfoldable pub words_ok_lem : List ℕ → Bool
words_ok_lem w = leb header_words (length w) && header_ok_lem w && leb (words_of_lem w) (length w)

-- the same of words that may be of either edition, as a card's
unfoldable pub whole_ok : List ℕ → Bool
whole_ok w = leb header_words (length w) && card_ok_lem w && leb (words_of_lem w) (length w)

-- ---- a node's positions, and its first
-- the positions of node k's run
abbrev pub run# : List ℕ → ℕ → List ℕ
run# w k = range (start# w k) (count# w k)

-- node k's first: the row at its run's start
abbrev pub first# : List ℕ → ℕ → ℕ
first# w k = row# w (start# w k)
