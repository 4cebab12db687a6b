-- Several rows put in, worked out by another hand, row by row. Every table has one column. Assumes nothing.
use Rattle.std.specs.Prelude.{◌-◌, ℕ, eqb, length, Bool, ◌&&◌, List, [], ◌++◌, ◌∷◌, map}
use Rattle.appending.specs.Append.{appended, join, lodge, lowest_at}
use Rattle.laws.specs.Lists.{range, same}
use Rattle.laws.specs.Upto.{sum_to}
use Rattle.measure.specs.Distance.{l1}
use Rattle.measure.specs.Table.{between, rows_of}
use Rattle.swelling.specs.Pieces.{by_levels, level_from, levels_from, members_from}
use Rattle.swelling.specs.Rows.{appended_rows, in_turn, joins}
use Rattle.swelling.specs.Swell.{lodges, parts, swell, swollen, swollen_tree}
use Rattle.tree.specs.Build.{build, choose, grow, split}
use Rattle.tree.specs.Cases.{five}
use Rattle.tree.specs.Encode.{broods, encode, family, level_nodes, nodes, numbered}
use Rattle.tree.specs.Grove.{tree_at, tree_of}
use Rattle.words.specs.Words.{nodes#, circles#, l#, m#, n#, row#}

pub data Case : Type 0 where
  -- the table is built with m = 2 and l = 2, and the numbers appended: these words come out, all at once and in turn
  built : List ℕ → List ℕ → List ℕ → Case
  -- the same on an empty table
  begun : List ℕ → List ℕ → Case
  -- this order of rows and this N come out
  order : List ℕ → List ℕ → List ℕ → ℕ → Case
  -- the table's last rows are new to these words: those come out
  given : List ℕ → List ℕ → List ℕ → Case

-- the words of the tree that takes all rows at once
abbrev pub at_once : List ℕ → List ℕ → List ℕ
at_once T w =
    encode 2 1 (circles# w) (m# w) (l# w) (swollen_tree (between T 1 (circles# w)) (m# w) (l# w) (range (n# w) (rows_of T 1 - n# w)) (tree_of w))

-- the index of a table that is built
unfoldable pub base : List ℕ → List ℕ
unfolding sum_to l1 between tree_at tree_of family broods level_nodes nodes numbered encode choose split grow build
base us = build us 1 0 2 2 2

-- a case comes out as it says
unfoldable pub right : Case → Bool
unfolding base appended join lodge lowest_at joins appended_rows in_turn parts swell lodges swollen level_from levels_from members_from
right (built us vs w) =
    let old = base us in
    same (appended_rows (us ++ vs) 1 old) w && same (in_turn (us ++ vs) 1 (length vs) old) w && same (at_once (us ++ vs) old) w
    && same (by_levels (us ++ vs) 1 old) w
right (begun vs w) = let old = base [] in same (appended_rows vs 1 old) w && same (in_turn vs 1 (length vs) old) w
right (order us vs is N) =
    let w = at_once (us ++ vs) (base us) in
    same (map (row# w) (range 0 (n# w))) is && eqb (nodes# w) N && same (appended_rows (us ++ vs) 1 (base us)) w
right (given T w w') = same (appended_rows T 1 w) w' && same (at_once T w) w' && same (by_levels T 1 w) w'

-- rows for several leaves
abbrev pub several : List Case
several =
    built five (6 ∷ 12 ∷ 0 ∷ []) (
    2 ∷ 8 ∷ 1 ∷ 2 ∷ 2 ∷ 9 ∷ 1 ∷ 0
    ∷ 0 ∷ 8 ∷ 1 ∷ 20 ∷ 0
    ∷ 0 ∷ 5 ∷ 3 ∷ 10 ∷ 0
    ∷ 5 ∷ 3 ∷ 5 ∷ 9 ∷ 8
    ∷ 0 ∷ 3 ∷ 7 ∷ 1 ∷ 0
    ∷ 3 ∷ 2 ∷ 0 ∷ 4 ∷ 4
    ∷ 5 ∷ 1 ∷ 0 ∷ 0 ∷ 0
    ∷ 6 ∷ 2 ∷ 0 ∷ 1 ∷ 1
    ∷ 0 ∷ 2 ∷ 0 ∷ 0 ∷ 0
    ∷ 2 ∷ 1 ∷ 0 ∷ 0 ∷ 0
    ∷ 0 ∷ 0 ∷ 7 ∷ 0 ∷ 1 ∷ 0 ∷ 2 ∷ 0 ∷ 5 ∷ 4 ∷ 4 ∷ 0 ∷ 3 ∷ 0 ∷ 6 ∷ 1 ∷ []
    )
    ∷ built five (25 ∷ 2 ∷ 11 ∷ []) (
    2 ∷ 8 ∷ 1 ∷ 2 ∷ 2 ∷ 9 ∷ 1 ∷ 0
    ∷ 0 ∷ 8 ∷ 1 ∷ 25 ∷ 1
    ∷ 0 ∷ 4 ∷ 3 ∷ 10 ∷ 1
    ∷ 4 ∷ 4 ∷ 5 ∷ 9 ∷ 5
    ∷ 0 ∷ 3 ∷ 7 ∷ 2 ∷ 1
    ∷ 3 ∷ 1 ∷ 0 ∷ 0 ∷ 0
    ∷ 4 ∷ 2 ∷ 0 ∷ 5 ∷ 5
    ∷ 6 ∷ 2 ∷ 0 ∷ 0 ∷ 0
    ∷ 0 ∷ 2 ∷ 0 ∷ 1 ∷ 1
    ∷ 2 ∷ 1 ∷ 0 ∷ 0 ∷ 0
    ∷ 0 ∷ 0 ∷ 1 ∷ 1 ∷ 6 ∷ 0 ∷ 2 ∷ 0 ∷ 4 ∷ 0 ∷ 5 ∷ 5 ∷ 3 ∷ 0 ∷ 7 ∷ 0 ∷ []
    )
    ∷ built five (9 ∷ 6 ∷ []) (
    2 ∷ 7 ∷ 1 ∷ 2 ∷ 2 ∷ 7 ∷ 1 ∷ 0
    ∷ 0 ∷ 7 ∷ 1 ∷ 20 ∷ 1
    ∷ 0 ∷ 5 ∷ 3 ∷ 10 ∷ 1
    ∷ 5 ∷ 2 ∷ 0 ∷ 9 ∷ 9
    ∷ 0 ∷ 2 ∷ 0 ∷ 1 ∷ 1
    ∷ 2 ∷ 3 ∷ 5 ∷ 4 ∷ 1
    ∷ 2 ∷ 2 ∷ 0 ∷ 1 ∷ 1
    ∷ 4 ∷ 1 ∷ 0 ∷ 0 ∷ 0
    ∷ 0 ∷ 0 ∷ 1 ∷ 1 ∷ 2 ∷ 0 ∷ 5 ∷ 1 ∷ 6 ∷ 0 ∷ 4 ∷ 0 ∷ 3 ∷ 9 ∷ []
    )
    ∷ []

-- rows for one leaf, which is split between them, and so is a part of it
abbrev pub single : List Case
single =
    built (0 ∷ 10 ∷ []) (1 ∷ 2 ∷ 3 ∷ 4 ∷ []) (
    2 ∷ 6 ∷ 1 ∷ 2 ∷ 2 ∷ 7 ∷ 1 ∷ 0
    ∷ 0 ∷ 6 ∷ 1 ∷ 10 ∷ 1
    ∷ 0 ∷ 5 ∷ 3 ∷ 4 ∷ 1
    ∷ 5 ∷ 1 ∷ 0 ∷ 0 ∷ 0
    ∷ 0 ∷ 2 ∷ 0 ∷ 1 ∷ 1
    ∷ 2 ∷ 3 ∷ 5 ∷ 2 ∷ 1
    ∷ 2 ∷ 2 ∷ 0 ∷ 1 ∷ 1
    ∷ 4 ∷ 1 ∷ 0 ∷ 0 ∷ 0
    ∷ 0 ∷ 0 ∷ 2 ∷ 1 ∷ 3 ∷ 0 ∷ 4 ∷ 1 ∷ 5 ∷ 0 ∷ 1 ∷ 0 ∷ []
    )
    ∷ built five (12 ∷ 13 ∷ 14 ∷ 19 ∷ []) (
    2 ∷ 9 ∷ 1 ∷ 2 ∷ 2 ∷ 9 ∷ 1 ∷ 0
    ∷ 0 ∷ 9 ∷ 1 ∷ 20 ∷ 1
    ∷ 0 ∷ 3 ∷ 3 ∷ 10 ∷ 1
    ∷ 3 ∷ 6 ∷ 5 ∷ 9 ∷ 1
    ∷ 0 ∷ 2 ∷ 0 ∷ 1 ∷ 1
    ∷ 2 ∷ 1 ∷ 0 ∷ 0 ∷ 0
    ∷ 3 ∷ 2 ∷ 0 ∷ 1 ∷ 1
    ∷ 5 ∷ 4 ∷ 7 ∷ 3 ∷ 1
    ∷ 5 ∷ 2 ∷ 0 ∷ 1 ∷ 1
    ∷ 7 ∷ 2 ∷ 0 ∷ 1 ∷ 1
    ∷ 0 ∷ 0 ∷ 1 ∷ 1 ∷ 2 ∷ 0 ∷ 4 ∷ 0 ∷ 8 ∷ 1 ∷ 3 ∷ 0 ∷ 5 ∷ 1 ∷ 6 ∷ 0 ∷ 7 ∷ 1 ∷ []
    )
    ∷ built (7 ∷ []) (7 ∷ 7 ∷ 6 ∷ 7 ∷ []) (
    2 ∷ 5 ∷ 1 ∷ 2 ∷ 2 ∷ 7 ∷ 1 ∷ 0
    ∷ 0 ∷ 5 ∷ 1 ∷ 1 ∷ 0
    ∷ 0 ∷ 4 ∷ 3 ∷ 1 ∷ 0
    ∷ 4 ∷ 1 ∷ 0 ∷ 0 ∷ 0
    ∷ 0 ∷ 3 ∷ 5 ∷ 0 ∷ 0
    ∷ 3 ∷ 1 ∷ 0 ∷ 0 ∷ 0
    ∷ 0 ∷ 2 ∷ 0 ∷ 0 ∷ 0
    ∷ 2 ∷ 1 ∷ 0 ∷ 0 ∷ 0
    ∷ 0 ∷ 0 ∷ 4 ∷ 0 ∷ 2 ∷ 0 ∷ 3 ∷ 0 ∷ 1 ∷ 0 ∷ []
    )
    ∷ []

-- on an empty table
abbrev pub fresh : List Case
fresh =
    begun (4 ∷ []) (
    2 ∷ 1 ∷ 1 ∷ 2 ∷ 2 ∷ 1 ∷ 1 ∷ 0
    ∷ 0 ∷ 1 ∷ 0 ∷ 0 ∷ 0
    ∷ 0 ∷ 0 ∷ []
    )
    ∷ begun (4 ∷ 9 ∷ 1 ∷ 5 ∷ []) (
    2 ∷ 4 ∷ 1 ∷ 2 ∷ 2 ∷ 5 ∷ 1 ∷ 0
    ∷ 0 ∷ 4 ∷ 1 ∷ 5 ∷ 1
    ∷ 0 ∷ 3 ∷ 3 ∷ 3 ∷ 1
    ∷ 3 ∷ 1 ∷ 0 ∷ 0 ∷ 0
    ∷ 0 ∷ 2 ∷ 0 ∷ 1 ∷ 1
    ∷ 2 ∷ 1 ∷ 0 ∷ 0 ∷ 0
    ∷ 0 ∷ 0 ∷ 3 ∷ 1 ∷ 2 ∷ 0 ∷ 1 ∷ 0 ∷ []
    )
    ∷ []

-- words that no build gives: a leaf with a row twice stays one; one out of order is put in order; wrong numbers are measured anew but for the reach
-- that the leaf had
abbrev pub unbuilt : List Case
unbuilt =
    given (0 ∷ 5 ∷ 9 ∷ 12 ∷ []) (
    2 ∷ 2 ∷ 1 ∷ 2 ∷ 2 ∷ 1 ∷ 1 ∷ 0
    ∷ 0 ∷ 2 ∷ 0 ∷ 3 ∷ 2
    ∷ 0 ∷ 0 ∷ 0 ∷ 7 ∷ []
    ) (
    2 ∷ 4 ∷ 1 ∷ 2 ∷ 2 ∷ 1 ∷ 1 ∷ 0
    ∷ 0 ∷ 4 ∷ 0 ∷ 12 ∷ 2
    ∷ 0 ∷ 0 ∷ 0 ∷ 0 ∷ 2 ∷ 9 ∷ 3 ∷ 12 ∷ []
    )
    ∷ given (5 ∷ 9 ∷ 6 ∷ 4 ∷ 5 ∷ 7 ∷ 8 ∷ []) (
    2 ∷ 4 ∷ 1 ∷ 2 ∷ 4 ∷ 1 ∷ 1 ∷ 0
    ∷ 0 ∷ 4 ∷ 0 ∷ 4 ∷ 1
    ∷ 0 ∷ 0 ∷ 3 ∷ 1 ∷ 2 ∷ 1 ∷ 1 ∷ 4 ∷ []
    ) (
    2 ∷ 7 ∷ 1 ∷ 2 ∷ 4 ∷ 5 ∷ 1 ∷ 0
    ∷ 0 ∷ 7 ∷ 1 ∷ 4 ∷ 0
    ∷ 0 ∷ 5 ∷ 3 ∷ 2 ∷ 0
    ∷ 5 ∷ 2 ∷ 0 ∷ 1 ∷ 1
    ∷ 0 ∷ 4 ∷ 0 ∷ 1 ∷ 0
    ∷ 4 ∷ 1 ∷ 0 ∷ 0 ∷ 0
    ∷ 0 ∷ 0 ∷ 2 ∷ 1 ∷ 3 ∷ 1 ∷ 4 ∷ 0 ∷ 5 ∷ 0 ∷ 1 ∷ 0 ∷ 6 ∷ 1 ∷ []
    )
    ∷ given (0 ∷ 10 ∷ 6 ∷ 8 ∷ 1 ∷ []) (
    2 ∷ 2 ∷ 1 ∷ 2 ∷ 2 ∷ 1 ∷ 1 ∷ 0
    ∷ 0 ∷ 2 ∷ 0 ∷ 50 ∷ 3
    ∷ 0 ∷ 4 ∷ 1 ∷ 1 ∷ []
    ) (
    2 ∷ 5 ∷ 1 ∷ 2 ∷ 2 ∷ 5 ∷ 1 ∷ 0
    ∷ 0 ∷ 5 ∷ 1 ∷ 50 ∷ 1
    ∷ 0 ∷ 2 ∷ 0 ∷ 1 ∷ 1
    ∷ 2 ∷ 3 ∷ 3 ∷ 4 ∷ 2
    ∷ 2 ∷ 2 ∷ 0 ∷ 2 ∷ 2
    ∷ 4 ∷ 1 ∷ 0 ∷ 0 ∷ 0
    ∷ 0 ∷ 0 ∷ 4 ∷ 1 ∷ 1 ∷ 0 ∷ 3 ∷ 2 ∷ 2 ∷ 0 ∷ []
    )
    ∷ []

-- equal rows down to depth 24, and three more
abbrev pub deepest : Case
deepest = order (map (λ i. 7) (range 0 26)) (7 ∷ 7 ∷ 6 ∷ []) (
    0 ∷ 25 ∷ 26 ∷ 27 ∷ 28 ∷ 24 ∷ 23 ∷ 22 ∷ 21 ∷ 20 ∷ 19 ∷ 18 ∷ 17 ∷ 16 ∷ 15 ∷ 14 ∷ 13 ∷ 12 ∷ 11 ∷ 10 ∷ 9 ∷ 8 ∷ 7 ∷ 6 ∷ 5 ∷ 4 ∷ 3 ∷ 2 ∷ 1 ∷ []
    ) 49
