-- 13 of the full check by a node's children, as the pass tests it. Over the distance d between rows. A working notion, on which no promise rests.
-- Assumes nothing.
use Rattle.std.specs.Prelude.{◌+◌, ◌<◌, ℕ, ltb, get_or, Bool, ◌&&◌, List, ◌≡◌}
use Rattle.laws.specs.First.{First}
use Rattle.laws.specs.Lists.{any, range}
use Rattle.tree.specs.Check.{in_run}
use Rattle.words.specs.Words.{child#, count#, first#, m#, n#, row#, start#}

-- r is the first position of node k's run that passes f, or the run's end
abbrev pub FirstIn : List ℕ → ℕ → (ℕ → Bool) → ℕ → Type 0
FirstIn w k f r = First f (start# w k) (start# w k + count# w k) r

-- fs are the firsts of the m nodes from number j on
pub record Firsts (w : List ℕ) (j : ℕ) (fs : List ℕ) : Type 0 where
  pub at : (i : ℕ) → i < m# w → get_or fs i 0 ≡ first# w (j + i)
  pub low : (i : ℕ) → i < m# w → get_or fs i 0 < n# w

module _ (d : ℕ → ℕ → ℕ) (w : List ℕ) where
  -- 13, of one centre: the row at p is closer than x to the first of node i
  abbrev pub closer_than : ℕ → ℕ → ℕ → Bool
  closer_than p x i = ltb (d (first# w i) (row# w p)) x

  -- 13, of node k's child j: it has position p, whose row is closer to the centre of another child
  unfoldable pub kid_strays : ℕ → ℕ → ℕ → Bool
  kid_strays k j p = in_run w p j && any (closer_than p (d (first# w j) (row# w p))) (range (child# w k) (m# w))
