-- What the definitions give of small numbers, computed, so that a message shows which does not. Assumes nothing.
use Rattle.measure.specs.Distance.{apart, is_circle_lem}
use Rattle.measure.specs.Table.{row}
use mathlib.Core.Bool.{false, true}
use mathlib.Core.List.{[], ◌∷◌}
use mathlib.Core.Path.{◌≡◌, refl}

-- 02, R-1: 359.5 and 0.5 degrees are one degree apart, over the seam; 0.5 and 1.5 are so too, and not the long way round
pub seam-apart : (apart true 3_595 5 ≡ 10) × (apart true 5 15 ≡ 10)
seam-apart = (refl, refl)

-- 01: in a column that is no circle they are the difference apart
pub plain-apart : apart false 3_595 5 ≡ 3_590
plain-apart = refl

-- 02, R-1: bit j is that of column j
pub bit_column : (is_circle_lem 5 0 ≡ true) × (is_circle_lem 5 1 ≡ false) × (is_circle_lem 5 2 ≡ true)
bit_column = (refl, refl, refl)

-- 01: row 2 of one column is the third number
pub third_row : row (7 ∷ 8 ∷ 9 ∷ []) 1 2 ≡ 9 ∷ []
third_row = refl
