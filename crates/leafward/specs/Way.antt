-- The way from the root to the leaf that a new row joins: 02, R-2. Over the distance d between rows; z is the new row. A working notion, on which no
-- promise rests. Assumes nothing.
use Rattle.std.specs.Prelude.{◌*◌, ◌+◌, ◌<◌, ◌≤◌, suc, zero, ℕ, length, cond, false, List, map, ◌≡◌}
use Rattle.appending.specs.Append.{lowest_at}
use Rattle.laws.specs.Lists.{range}
use Rattle.limits.specs.Limits.{max_depth}
use Rattle.words.specs.InShape.{InShape}
use Rattle.words.specs.Shape.{inner}
use Rattle.words.specs.Words.{nodes#, c#, child#, first#, m#, n#}

-- an index in shape over c columns, and a table that has its rows and row z
pub record NewRow (t : List ℕ) (c : ℕ) (w : List ℕ) (z : ℕ) : Type 0 where
  pub shape : InShape w
  pub columns : c# w ≡ c
  pub table : c * n# w ≤ length t
  pub new : c * z + c ≤ length t

module _ (d : ℕ → ℕ → ℕ) (w : List ℕ) (z : ℕ) where
  -- how far the centre of node k's child j is from row z
  abbrev pub to_kid : ℕ → ℕ → ℕ
  to_kid k j = d (first# w (child# w k + j)) z

  -- which child of node k has the centre closest to row z, ties to the earliest
  unfoldable pub closest_kid : ℕ → ℕ
  closest_kid k = lowest_at (map (to_kid k) (range 0 (m# w)))

  -- the leaf that row z joins, from node k on, which has at most `deep` levels below it
  unfoldable pub way_to : ℕ → ℕ → ℕ
  way_to zero k = k
  way_to (suc deep) k = let below : ℕ = way_to deep (child# w k + closest_kid k) in cond (inner w k) below k

  -- how many levels can be below that leaf
  unfoldable pub left_at : ℕ → ℕ → ℕ
  left_at zero k = zero
  left_at (suc deep) k = let below : ℕ = left_at deep (child# w k + closest_kid k) in cond (inner w k) below (suc deep)

  -- the leaf, and the levels that can be below it
  pub record LeafFound (v left : ℕ) : Type 0 where
    pub node : v ≡ way_to max_depth 0
    pub levels : left ≡ left_at max_depth 0
    pub there : v < nodes# w
    pub leaf : inner w v ≡ false
