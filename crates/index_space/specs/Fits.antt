-- When a search on the lent rows is one on rows that the index fits: x as they are lent, x' as it fits. Assumes nothing.
use Rattle.std.specs.Prelude.{◌<◌, ◌≤◌, ℕ, Bool, true, List, map, ◌≡◌}
use Rattle.laws.specs.Lists.{look, range, times}
use Rattle.tree.specs.Grove.{tree_of}
use Rattle.tree.specs.Homes.{homes}
use Rattle.tree.specs.Nearest.{passes}
use Rattle.words.specs.Words.{n#, row#}

-- a row's home bound
abbrev pub home_bound : List ℕ → (ℕ → ℕ) → ℕ → ℕ
home_bound w x r = look r (homes x (tree_of w))

-- the index w fits the rows at x', and those at x agree with them wherever a search measures for so many of the rows that are not withdrawn
pub record IndexFits (w : List ℕ) (gone : ℕ → Bool) (wanted : ℕ) (x x' : ℕ → ℕ) : Type 0 where
  -- each row stands once
  pub once : (i : ℕ) → i < n# w → times i (map (row# w) (range 0 (n# w))) ≡ 1
  -- no row is closer than its home bound
  pub under : (r : ℕ) → r < n# w → home_bound w x' r ≤ x' r
  -- the two agree in every row whose home bound passes
  pub agree : (r : ℕ) → r < n# w → passes x' gone (n# w) wanted (home_bound w x' r) ≡ true → x r ≡ x' r
