-- A run of the search over the items of an index, and what it has found. A working notion, on which no promise rests. Assumes nothing.
use Rattle.std.specs.Prelude.{◌<◌, ℕ, ltb, Bool, List, [], ◌++◌, ◌∷◌, map, ◌≡◌}
use Rattle.best_first.specs.Search.{Ended, SearchReach}
use Rattle.index_space.specs.Items.{IndexItem, root_of, space_of}
use Rattle.laws.specs.Bags.{is}
use Rattle.laws.specs.Lists.{keep, range}
use Rattle.tree.specs.Nearest.{sort}
use Rattle.words.specs.Words.{first#, n#}

-- The search with the rows at x, of which those of `gone` are withdrawn, that began with the root and its first, has come to where these items wait
-- and the rows of m are measured.
pub record SearchRun (w : List ℕ) (gone : ℕ → Bool) (wanted : ℕ) (x : ℕ → ℕ) (waiting : List IndexItem) (m : ℕ → ℕ) : Type 0 where
  pub start : ℕ → ℕ
  pub begun : (r : ℕ) → r < n# w → start r ≡ is r (first# w 0)
  pub reached : SearchReach (space_of w gone) wanted x (root_of w x ∷ []) start waiting m

-- It has come to where these items wait, but for those that are left out: w measured rows that remain are closer than the bound of each.
pub record RunSoFar (w : List ℕ) (gone : ℕ → Bool) (wanted : ℕ) (x : ℕ → ℕ) (waiting : List IndexItem) (m : ℕ → ℕ) : Type 0 where
  pub left : List IndexItem
  pub run : SearchRun w gone wanted x (waiting ++ left) m
  pub beyond : Ended (space_of w gone) wanted x left m

-- It has come to its end.
pub record RunToEnd (w : List ℕ) (gone : ℕ → Bool) (wanted : ℕ) (x m : ℕ → ℕ) : Type 0 where
  pub waiting : List IndexItem
  pub run : SearchRun w gone wanted x waiting m
  pub ended : Ended (space_of w gone) wanted x waiting m

-- all rows with their distances, withdrawn or not
abbrev pub all_rows : (ℕ → ℕ) → ℕ → List (ℕ × ℕ)
all_rows x n = map (λ i. (i, x i)) (range 0 n)

-- the rows of m, with their distances, in the order of answers
unfoldable pub in_order : (ℕ → ℕ) → ℕ → (ℕ → ℕ) → List (ℕ × ℕ)
in_order x n m = sort (keep (λ a. ltb 0 (m a.0)) (all_rows x n))
