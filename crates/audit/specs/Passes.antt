-- What the passes of the full check find, one after the other. Over the distance d between rows. A working notion, on which no promise
-- rests. Assumes nothing.
use Rattle.std.specs.Prelude.{ℕ, List, ◌++◌, map}
use Rattle.laws.specs.Lists.{keep, range}
use Rattle.limits.specs.Said.{Said}
use Rattle.nearness.specs.Strays.{all_strays}
use Rattle.tree.specs.Check.{wrong_dist, wrong_reach_lem}
use Rattle.words.specs.Words.{nodes#, n#}

module _ (d : ℕ → ℕ → ℕ) (w : List ℕ) where
  -- 11 to 13: the faults that distances show
  unfoldable pub measured_faults : List Said
  measured_faults =
      map (λ p. (11, p, 0)) (keep (wrong_dist d w) (range 0 (n# w)))
      ++ (map (λ k. (12, k, 0)) (keep (wrong_reach_lem d w) (range 0 (nodes# w))) ++ all_strays d w)
