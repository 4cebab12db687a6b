-- The five-row index with one row more, computed: 6 goes to a leaf that stays, 12 to one that is split. Assumes nothing.
use Rattle.copies.specs.Copies.{new_reach}
use Rattle.moved_runs.specs.Runs.{holds}
use Rattle.laws.specs.Upto.{sum_to}
use Rattle.leafward.specs.Changed.{changed_at}
use Rattle.measure.specs.Distance.{l1}
use Rattle.measure.specs.Table.{between}
use Rattle.refill.specs.Calls.{regrown_words}
use Rattle.regrow.specs.Calls.{regrown_of}
use Rattle.tree.specs.Build.{choose, grow, split}
use Rattle.tree.specs.Cases.{five, five_words}
use Rattle.tree.specs.Encode.{broods, encode, family, level_nodes, nodes, numbered}
use mathlib.Core.List.{[], ◌++◌, ◌∷◌}
use mathlib.Core.Path.{◌≡◌, refl}

-- ROW 5 IS 6: IT STANDS LAST IN NODE 4, WHICH HAS NOW A RADIUS AND AN INNER REACH
pub stays_case : regrown_words (five ++ 6 ∷ []) five_words 4 1 2 (2 ∷ 5 ∷ [])
    ≡ 2 ∷ 6 ∷ 1 ∷ 2 ∷ 2 ∷ 5 ∷ 1 ∷ 0
    ∷ 0 ∷ 6 ∷ 1 ∷ 20 ∷ 1
    ∷ 0 ∷ 4 ∷ 3 ∷ 10 ∷ 1
    ∷ 4 ∷ 2 ∷ 0 ∷ 9 ∷ 9
    ∷ 0 ∷ 2 ∷ 0 ∷ 1 ∷ 1
    ∷ 2 ∷ 2 ∷ 0 ∷ 4 ∷ 4
    ∷ 0 ∷ 0 ∷ 1 ∷ 1 ∷ 2 ∷ 0 ∷ 5 ∷ 4 ∷ 4 ∷ 0 ∷ 3 ∷ 9 ∷ []
unfolding sum_to l1 between family broods level_nodes nodes numbered encode choose split grow changed_at regrown_of holds new_reach
stays_case = refl

-- ROW 5 IS 12: NODE 2 IS SPLIT, ITS CHILDREN ARE 5 AND 6, AND ITS INNER REACH SHRINKS
pub splits_case : regrown_words (five ++ 12 ∷ []) five_words 2 1 2 (4 ∷ 3 ∷ 5 ∷ [])
    ≡ 2 ∷ 6 ∷ 1 ∷ 2 ∷ 2 ∷ 7 ∷ 1 ∷ 0
    ∷ 0 ∷ 6 ∷ 1 ∷ 20 ∷ 1
    ∷ 0 ∷ 3 ∷ 3 ∷ 10 ∷ 1
    ∷ 3 ∷ 3 ∷ 5 ∷ 9 ∷ 8
    ∷ 0 ∷ 2 ∷ 0 ∷ 1 ∷ 1
    ∷ 2 ∷ 1 ∷ 0 ∷ 0 ∷ 0
    ∷ 3 ∷ 1 ∷ 0 ∷ 0 ∷ 0
    ∷ 4 ∷ 2 ∷ 0 ∷ 1 ∷ 1
    ∷ 0 ∷ 0 ∷ 1 ∷ 1 ∷ 2 ∷ 0 ∷ 4 ∷ 0 ∷ 3 ∷ 0 ∷ 5 ∷ 1 ∷ []
unfolding sum_to l1 between family broods level_nodes nodes numbered encode choose split grow changed_at regrown_of holds new_reach
splits_case = refl

-- ROW 5 IS 12, AND THE LIMIT IS HIGHER: NODE 2 STAYS A LEAF OF THREE ROWS
pub longer_case : regrown_words (five ++ 12 ∷ []) five_words 2 1 1_048_576 (4 ∷ 3 ∷ 5 ∷ [])
    ≡ 2 ∷ 6 ∷ 1 ∷ 2 ∷ 2 ∷ 5 ∷ 1 ∷ 0
    ∷ 0 ∷ 6 ∷ 1 ∷ 20 ∷ 1
    ∷ 0 ∷ 3 ∷ 3 ∷ 10 ∷ 1
    ∷ 3 ∷ 3 ∷ 0 ∷ 9 ∷ 8
    ∷ 0 ∷ 2 ∷ 0 ∷ 1 ∷ 1
    ∷ 2 ∷ 1 ∷ 0 ∷ 0 ∷ 0
    ∷ 0 ∷ 0 ∷ 1 ∷ 1 ∷ 2 ∷ 0 ∷ 4 ∷ 0 ∷ 3 ∷ 9 ∷ 5 ∷ 8 ∷ []
unfolding sum_to l1 between family broods level_nodes nodes numbered encode choose split grow changed_at regrown_of holds new_reach
longer_case = refl
