-- The test of a stored distance as the pass makes it, leaf by leaf. Over the distance d between rows. A working notion, on which no promise
-- rests. Assumes nothing.
use Rattle.std.specs.Prelude.{ℕ, eqb, Bool, ◌&&◌, not, List}
use Rattle.tree.specs.Check.{in_run}
use Rattle.words.specs.Shape.{inner}
use Rattle.words.specs.Words.{dist#, first#, row#}

module _ (d : ℕ → ℕ → ℕ) (w : List ℕ) where
  -- 11, of one node: it is a leaf with position p, whose stored distance is wrong
  unfoldable pub leaf_wrong_lem : ℕ → ℕ → Bool
  leaf_wrong_lem k p = not (inner w k) && in_run w p k && not (eqb (dist# w p) (d (first# w k) (row# w p)))
