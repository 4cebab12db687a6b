-- Appends worked out by another hand. Every table has one column. Assumes nothing.
use Rattle.std.specs.Prelude.{◌-◌, ℕ, eqb, Bool, ◌&&◌, List, [], ◌++◌, ◌∷◌, map}
use Rattle.appending.specs.Append.{appended, join, lodge, lowest_at}
use Rattle.laws.specs.Lists.{range, same}
use Rattle.laws.specs.Upto.{sum_to}
use Rattle.measure.specs.Distance.{l1}
use Rattle.measure.specs.Table.{between}
use Rattle.tree.specs.Build.{build, choose, grow, split}
use Rattle.tree.specs.Cases.{five}
use Rattle.tree.specs.Encode.{broods, encode, family, level_nodes, nodes, numbered}
use Rattle.tree.specs.Grove.{tree_at, tree_of}
use Rattle.words.specs.Words.{nodes#, n#, row#}

pub data Case : Type 0 where
  -- the table is built with m = 2 and l = 2, and the number appended: these words come out
  built : List ℕ → ℕ → List ℕ → Case
  -- this order of rows and this N come out
  order : List ℕ → ℕ → List ℕ → ℕ → Case
  -- the table's last row is new to these words: those come out
  given : List ℕ → List ℕ → List ℕ → Case

-- a case comes out as it says
unfoldable pub right : Case → Bool
unfolding sum_to l1 between tree_at tree_of family broods level_nodes nodes numbered encode choose split grow build appended join lodge lowest_at
right (built T v w) = same (appended (T ++ v ∷ []) 1 (build T 1 0 2 2 2)) w
right (order T v is N) = let w = appended (T ++ v ∷ []) 1 (build T 1 0 2 2 2) in same (map (row# w) (range 0 (n# w))) is && eqb (nodes# w) N
right (given T w w') = same (appended T 1 w) w'

-- equal rows
abbrev sevens : List ℕ
sevens = 7 ∷ 7 ∷ 7 ∷ 7 ∷ []

-- rows in no order
abbrev six : List ℕ
six = 3 ∷ 9 ∷ 4 ∷ 1 ∷ 7 ∷ 2 ∷ []

-- a leaf at depth 24: 27 equal rows, and one more
abbrev pub deepest : Case
deepest = order (map (λ i. 7) (range 0 27)) 6 (0 ∷ 25 ∷ 26 ∷ 27 ∷ map (λ i. 24 - i) (range 0 24)) 49

-- the five rows and an empty table
abbrev pub marked : List Case
marked =
    built five 6 (
    2 ∷ 6 ∷ 1 ∷ 2 ∷ 2 ∷ 5 ∷ 1 ∷ 0
    ∷ 0 ∷ 6 ∷ 1 ∷ 20 ∷ 1
    ∷ 0 ∷ 4 ∷ 3 ∷ 10 ∷ 1
    ∷ 4 ∷ 2 ∷ 0 ∷ 9 ∷ 9
    ∷ 0 ∷ 2 ∷ 0 ∷ 1 ∷ 1
    ∷ 2 ∷ 2 ∷ 0 ∷ 4 ∷ 4
    ∷ 0 ∷ 0 ∷ 1 ∷ 1 ∷ 2 ∷ 0 ∷ 5 ∷ 4 ∷ 4 ∷ 0 ∷ 3 ∷ 9 ∷ []
    )
    ∷ built five 12 (
    2 ∷ 6 ∷ 1 ∷ 2 ∷ 2 ∷ 7 ∷ 1 ∷ 0
    ∷ 0 ∷ 6 ∷ 1 ∷ 20 ∷ 1
    ∷ 0 ∷ 3 ∷ 3 ∷ 10 ∷ 1
    ∷ 3 ∷ 3 ∷ 5 ∷ 9 ∷ 8
    ∷ 0 ∷ 2 ∷ 0 ∷ 1 ∷ 1
    ∷ 2 ∷ 1 ∷ 0 ∷ 0 ∷ 0
    ∷ 3 ∷ 1 ∷ 0 ∷ 0 ∷ 0
    ∷ 4 ∷ 2 ∷ 0 ∷ 1 ∷ 1
    ∷ 0 ∷ 0 ∷ 1 ∷ 1 ∷ 2 ∷ 0 ∷ 4 ∷ 0 ∷ 3 ∷ 0 ∷ 5 ∷ 1 ∷ []
    )
    ∷ built five 0 (
    2 ∷ 6 ∷ 1 ∷ 2 ∷ 2 ∷ 7 ∷ 1 ∷ 0
    ∷ 0 ∷ 6 ∷ 1 ∷ 20 ∷ 0
    ∷ 0 ∷ 4 ∷ 3 ∷ 10 ∷ 0
    ∷ 4 ∷ 2 ∷ 0 ∷ 9 ∷ 9
    ∷ 0 ∷ 3 ∷ 5 ∷ 1 ∷ 0
    ∷ 3 ∷ 1 ∷ 0 ∷ 0 ∷ 0
    ∷ 0 ∷ 2 ∷ 0 ∷ 0 ∷ 0
    ∷ 2 ∷ 1 ∷ 0 ∷ 0 ∷ 0
    ∷ 0 ∷ 0 ∷ 5 ∷ 0 ∷ 1 ∷ 0 ∷ 2 ∷ 0 ∷ 4 ∷ 0 ∷ 3 ∷ 9 ∷ []
    )
    ∷ built [] 4 (
    2 ∷ 1 ∷ 1 ∷ 2 ∷ 2 ∷ 1 ∷ 1 ∷ 0
    ∷ 0 ∷ 1 ∷ 0 ∷ 0 ∷ 0
    ∷ 0 ∷ 0 ∷ []
    )
    ∷ []

-- more: a tie of two centres, radii that grow, equal rows, leaves of one row, rows in no order
abbrev pub ours : List Case
ours =
    built five 10 (
    2 ∷ 6 ∷ 1 ∷ 2 ∷ 2 ∷ 5 ∷ 1 ∷ 0
    ∷ 0 ∷ 6 ∷ 1 ∷ 20 ∷ 1
    ∷ 0 ∷ 4 ∷ 3 ∷ 10 ∷ 1
    ∷ 4 ∷ 2 ∷ 0 ∷ 9 ∷ 9
    ∷ 0 ∷ 2 ∷ 0 ∷ 1 ∷ 1
    ∷ 2 ∷ 2 ∷ 0 ∷ 0 ∷ 0
    ∷ 0 ∷ 0 ∷ 1 ∷ 1 ∷ 2 ∷ 0 ∷ 5 ∷ 0 ∷ 4 ∷ 0 ∷ 3 ∷ 9 ∷ []
    )
    ∷ built five 25 (
    2 ∷ 6 ∷ 1 ∷ 2 ∷ 2 ∷ 7 ∷ 1 ∷ 0
    ∷ 0 ∷ 6 ∷ 1 ∷ 25 ∷ 1
    ∷ 0 ∷ 3 ∷ 3 ∷ 10 ∷ 1
    ∷ 3 ∷ 3 ∷ 5 ∷ 9 ∷ 5
    ∷ 0 ∷ 2 ∷ 0 ∷ 1 ∷ 1
    ∷ 2 ∷ 1 ∷ 0 ∷ 0 ∷ 0
    ∷ 3 ∷ 2 ∷ 0 ∷ 5 ∷ 5
    ∷ 5 ∷ 1 ∷ 0 ∷ 0 ∷ 0
    ∷ 0 ∷ 0 ∷ 1 ∷ 1 ∷ 2 ∷ 0 ∷ 4 ∷ 0 ∷ 5 ∷ 5 ∷ 3 ∷ 0 ∷ []
    )
    ∷ built sevens 6 (
    2 ∷ 5 ∷ 1 ∷ 2 ∷ 2 ∷ 7 ∷ 1 ∷ 0
    ∷ 0 ∷ 5 ∷ 1 ∷ 1 ∷ 0
    ∷ 0 ∷ 4 ∷ 3 ∷ 1 ∷ 0
    ∷ 4 ∷ 1 ∷ 0 ∷ 0 ∷ 0
    ∷ 0 ∷ 3 ∷ 5 ∷ 1 ∷ 0
    ∷ 3 ∷ 1 ∷ 0 ∷ 0 ∷ 0
    ∷ 0 ∷ 2 ∷ 0 ∷ 0 ∷ 0
    ∷ 2 ∷ 1 ∷ 0 ∷ 0 ∷ 0
    ∷ 0 ∷ 0 ∷ 3 ∷ 0 ∷ 4 ∷ 0 ∷ 2 ∷ 0 ∷ 1 ∷ 0 ∷ []
    )
    ∷ built sevens 7 (
    2 ∷ 5 ∷ 1 ∷ 2 ∷ 2 ∷ 7 ∷ 1 ∷ 0
    ∷ 0 ∷ 5 ∷ 1 ∷ 0 ∷ 0
    ∷ 0 ∷ 4 ∷ 3 ∷ 0 ∷ 0
    ∷ 4 ∷ 1 ∷ 0 ∷ 0 ∷ 0
    ∷ 0 ∷ 3 ∷ 5 ∷ 0 ∷ 0
    ∷ 3 ∷ 1 ∷ 0 ∷ 0 ∷ 0
    ∷ 0 ∷ 2 ∷ 0 ∷ 0 ∷ 0
    ∷ 2 ∷ 1 ∷ 0 ∷ 0 ∷ 0
    ∷ 0 ∷ 0 ∷ 4 ∷ 0 ∷ 3 ∷ 0 ∷ 2 ∷ 0 ∷ 1 ∷ 0 ∷ []
    )
    ∷ built (5 ∷ []) 6 (
    2 ∷ 2 ∷ 1 ∷ 2 ∷ 2 ∷ 1 ∷ 1 ∷ 0
    ∷ 0 ∷ 2 ∷ 0 ∷ 1 ∷ 1
    ∷ 0 ∷ 0 ∷ 1 ∷ 1 ∷ []
    )
    ∷ built (0 ∷ 10 ∷ []) 0 (
    2 ∷ 3 ∷ 1 ∷ 2 ∷ 2 ∷ 3 ∷ 1 ∷ 0
    ∷ 0 ∷ 3 ∷ 1 ∷ 10 ∷ 0
    ∷ 0 ∷ 2 ∷ 0 ∷ 0 ∷ 0
    ∷ 2 ∷ 1 ∷ 0 ∷ 0 ∷ 0
    ∷ 0 ∷ 0 ∷ 2 ∷ 0 ∷ 1 ∷ 0 ∷ []
    )
    ∷ built (0 ∷ 10 ∷ []) 25 (
    2 ∷ 3 ∷ 1 ∷ 2 ∷ 2 ∷ 3 ∷ 1 ∷ 0
    ∷ 0 ∷ 3 ∷ 1 ∷ 25 ∷ 10
    ∷ 0 ∷ 2 ∷ 0 ∷ 10 ∷ 10
    ∷ 2 ∷ 1 ∷ 0 ∷ 0 ∷ 0
    ∷ 0 ∷ 0 ∷ 1 ∷ 10 ∷ 2 ∷ 0 ∷ []
    )
    ∷ built six 6 (
    2 ∷ 7 ∷ 1 ∷ 2 ∷ 2 ∷ 7 ∷ 1 ∷ 0
    ∷ 0 ∷ 7 ∷ 1 ∷ 6 ∷ 1
    ∷ 0 ∷ 5 ∷ 3 ∷ 3 ∷ 1
    ∷ 5 ∷ 2 ∷ 0 ∷ 2 ∷ 2
    ∷ 0 ∷ 4 ∷ 5 ∷ 3 ∷ 1
    ∷ 4 ∷ 1 ∷ 0 ∷ 0 ∷ 0
    ∷ 0 ∷ 2 ∷ 0 ∷ 1 ∷ 1
    ∷ 2 ∷ 2 ∷ 0 ∷ 2 ∷ 2
    ∷ 0 ∷ 0 ∷ 5 ∷ 1 ∷ 2 ∷ 0 ∷ 6 ∷ 2 ∷ 3 ∷ 0 ∷ 1 ∷ 0 ∷ 4 ∷ 2 ∷ []
    )
    ∷ built six 7 (
    2 ∷ 7 ∷ 1 ∷ 2 ∷ 2 ∷ 9 ∷ 1 ∷ 0
    ∷ 0 ∷ 7 ∷ 1 ∷ 6 ∷ 1
    ∷ 0 ∷ 4 ∷ 3 ∷ 2 ∷ 1
    ∷ 4 ∷ 3 ∷ 5 ∷ 2 ∷ 2
    ∷ 0 ∷ 3 ∷ 7 ∷ 1 ∷ 1
    ∷ 3 ∷ 1 ∷ 0 ∷ 0 ∷ 0
    ∷ 4 ∷ 1 ∷ 0 ∷ 0 ∷ 0
    ∷ 5 ∷ 2 ∷ 0 ∷ 0 ∷ 0
    ∷ 0 ∷ 2 ∷ 0 ∷ 1 ∷ 1
    ∷ 2 ∷ 1 ∷ 0 ∷ 0 ∷ 0
    ∷ 0 ∷ 0 ∷ 5 ∷ 1 ∷ 2 ∷ 0 ∷ 3 ∷ 0 ∷ 1 ∷ 0 ∷ 4 ∷ 0 ∷ 6 ∷ 0 ∷ []
    )
    ∷ built six 0 (
    2 ∷ 7 ∷ 1 ∷ 2 ∷ 2 ∷ 7 ∷ 1 ∷ 0
    ∷ 0 ∷ 7 ∷ 1 ∷ 6 ∷ 1
    ∷ 0 ∷ 5 ∷ 3 ∷ 3 ∷ 1
    ∷ 5 ∷ 2 ∷ 0 ∷ 2 ∷ 2
    ∷ 0 ∷ 3 ∷ 5 ∷ 1 ∷ 1
    ∷ 3 ∷ 2 ∷ 0 ∷ 1 ∷ 1
    ∷ 0 ∷ 2 ∷ 0 ∷ 1 ∷ 1
    ∷ 2 ∷ 1 ∷ 0 ∷ 0 ∷ 0
    ∷ 0 ∷ 0 ∷ 5 ∷ 1 ∷ 2 ∷ 0 ∷ 3 ∷ 0 ∷ 6 ∷ 1 ∷ 1 ∷ 0 ∷ 4 ∷ 2 ∷ []
    )
    ∷ built six 25 (
    2 ∷ 7 ∷ 1 ∷ 2 ∷ 2 ∷ 9 ∷ 1 ∷ 0
    ∷ 0 ∷ 7 ∷ 1 ∷ 22 ∷ 1
    ∷ 0 ∷ 4 ∷ 3 ∷ 2 ∷ 1
    ∷ 4 ∷ 3 ∷ 5 ∷ 16 ∷ 2
    ∷ 0 ∷ 3 ∷ 7 ∷ 1 ∷ 1
    ∷ 3 ∷ 1 ∷ 0 ∷ 0 ∷ 0
    ∷ 4 ∷ 2 ∷ 0 ∷ 2 ∷ 2
    ∷ 6 ∷ 1 ∷ 0 ∷ 0 ∷ 0
    ∷ 0 ∷ 2 ∷ 0 ∷ 1 ∷ 1
    ∷ 2 ∷ 1 ∷ 0 ∷ 0 ∷ 0
    ∷ 0 ∷ 0 ∷ 5 ∷ 1 ∷ 2 ∷ 0 ∷ 3 ∷ 0 ∷ 1 ∷ 0 ∷ 4 ∷ 2 ∷ 6 ∷ 0 ∷ []
    )
    ∷ []

-- words that no build gives: two leaves out of order, one stays and one is split; a row twice; wrong numbers, which are measured anew but for the
-- reach that the leaf had
abbrev pub unbuilt : List Case
unbuilt =
    given (5 ∷ 9 ∷ 1 ∷ 6 ∷ []) (
    2 ∷ 3 ∷ 1 ∷ 2 ∷ 4 ∷ 1 ∷ 1 ∷ 0
    ∷ 0 ∷ 3 ∷ 0 ∷ 4 ∷ 4
    ∷ 0 ∷ 0 ∷ 2 ∷ 4 ∷ 1 ∷ 4 ∷ []
    ) (
    2 ∷ 4 ∷ 1 ∷ 2 ∷ 4 ∷ 1 ∷ 1 ∷ 0
    ∷ 0 ∷ 4 ∷ 0 ∷ 4 ∷ 1
    ∷ 0 ∷ 0 ∷ 2 ∷ 4 ∷ 1 ∷ 4 ∷ 3 ∷ 1 ∷ []
    )
    ∷ given (5 ∷ 9 ∷ 6 ∷ 4 ∷ 5 ∷ []) (
    2 ∷ 4 ∷ 1 ∷ 2 ∷ 4 ∷ 1 ∷ 1 ∷ 0
    ∷ 0 ∷ 4 ∷ 0 ∷ 4 ∷ 1
    ∷ 0 ∷ 0 ∷ 3 ∷ 1 ∷ 2 ∷ 1 ∷ 1 ∷ 4 ∷ []
    ) (
    2 ∷ 5 ∷ 1 ∷ 2 ∷ 4 ∷ 3 ∷ 1 ∷ 0
    ∷ 0 ∷ 5 ∷ 1 ∷ 4 ∷ 0
    ∷ 0 ∷ 4 ∷ 0 ∷ 1 ∷ 0
    ∷ 4 ∷ 1 ∷ 0 ∷ 0 ∷ 0
    ∷ 0 ∷ 0 ∷ 2 ∷ 1 ∷ 3 ∷ 1 ∷ 4 ∷ 0 ∷ 1 ∷ 0 ∷ []
    )
    ∷ given (0 ∷ 5 ∷ 9 ∷ []) (
    2 ∷ 2 ∷ 1 ∷ 2 ∷ 2 ∷ 1 ∷ 1 ∷ 0
    ∷ 0 ∷ 2 ∷ 0 ∷ 3 ∷ 2
    ∷ 0 ∷ 0 ∷ 0 ∷ 7 ∷ []
    ) (
    2 ∷ 3 ∷ 1 ∷ 2 ∷ 2 ∷ 1 ∷ 1 ∷ 0
    ∷ 0 ∷ 3 ∷ 0 ∷ 9 ∷ 2
    ∷ 0 ∷ 0 ∷ 0 ∷ 0 ∷ 2 ∷ 9 ∷ []
    )
    ∷ given (0 ∷ 10 ∷ 6 ∷ []) (
    2 ∷ 2 ∷ 1 ∷ 2 ∷ 2 ∷ 1 ∷ 1 ∷ 0
    ∷ 0 ∷ 2 ∷ 0 ∷ 50 ∷ 3
    ∷ 0 ∷ 4 ∷ 1 ∷ 1 ∷ []
    ) (
    2 ∷ 3 ∷ 1 ∷ 2 ∷ 2 ∷ 3 ∷ 1 ∷ 0
    ∷ 0 ∷ 3 ∷ 1 ∷ 50 ∷ 3
    ∷ 0 ∷ 1 ∷ 0 ∷ 0 ∷ 0
    ∷ 1 ∷ 2 ∷ 0 ∷ 4 ∷ 4
    ∷ 0 ∷ 0 ∷ 1 ∷ 0 ∷ 2 ∷ 4 ∷ []
    )
    ∷ []

-- a column that is a circle: the build of one row keeps the set; a row beyond the seam is near, in a leaf that is split and on the way down
abbrev pub seam : List Case
seam =
    given (7 ∷ []) (2 ∷ 0 ∷ 1 ∷ 2 ∷ 2 ∷ 0 ∷ 1 ∷ 1 ∷ []) (
    2 ∷ 1 ∷ 1 ∷ 2 ∷ 2 ∷ 1 ∷ 1 ∷ 1
    ∷ 0 ∷ 1 ∷ 0 ∷ 0 ∷ 0
    ∷ 0 ∷ 0 ∷ []
    )
    ∷ given (3595 ∷ 1800 ∷ 5 ∷ []) (
    2 ∷ 2 ∷ 1 ∷ 2 ∷ 2 ∷ 1 ∷ 1 ∷ 1
    ∷ 0 ∷ 2 ∷ 0 ∷ 1795 ∷ 1795
    ∷ 0 ∷ 0 ∷ 1 ∷ 1795 ∷ []
    ) (
    2 ∷ 3 ∷ 1 ∷ 2 ∷ 2 ∷ 3 ∷ 1 ∷ 1
    ∷ 0 ∷ 3 ∷ 1 ∷ 1795 ∷ 10
    ∷ 0 ∷ 2 ∷ 0 ∷ 10 ∷ 10
    ∷ 2 ∷ 1 ∷ 0 ∷ 0 ∷ 0
    ∷ 0 ∷ 0 ∷ 2 ∷ 10 ∷ 1 ∷ 0 ∷ []
    )
    ∷ given (3595 ∷ 1800 ∷ 5 ∷ 3 ∷ []) (
    2 ∷ 3 ∷ 1 ∷ 2 ∷ 2 ∷ 3 ∷ 1 ∷ 1
    ∷ 0 ∷ 3 ∷ 1 ∷ 1795 ∷ 10
    ∷ 0 ∷ 2 ∷ 0 ∷ 10 ∷ 10
    ∷ 2 ∷ 1 ∷ 0 ∷ 0 ∷ 0
    ∷ 0 ∷ 0 ∷ 2 ∷ 10 ∷ 1 ∷ 0 ∷ []
    ) (
    2 ∷ 4 ∷ 1 ∷ 2 ∷ 2 ∷ 5 ∷ 1 ∷ 1
    ∷ 0 ∷ 4 ∷ 1 ∷ 1795 ∷ 8
    ∷ 0 ∷ 3 ∷ 3 ∷ 10 ∷ 8
    ∷ 3 ∷ 1 ∷ 0 ∷ 0 ∷ 0
    ∷ 0 ∷ 1 ∷ 0 ∷ 0 ∷ 0
    ∷ 1 ∷ 2 ∷ 0 ∷ 2 ∷ 2
    ∷ 0 ∷ 0 ∷ 2 ∷ 0 ∷ 3 ∷ 2 ∷ 1 ∷ 0 ∷ []
    )
    ∷ []
