-- The cases that were worked out by hand are what the definitions say. Assumes nothing.
use Rattle.laws.specs.Lists.{all}
use Rattle.orders.specs.Cases.{bits, lengths, members, offices, right, rows, singles, turns}
use Rattle.rowset.specs.Sets.{restored, struck}
use mathlib.Core.Bool.{true}
use mathlib.Core.List.{[], ◌∷◌}
use mathlib.Core.Path.{◌≡◌, refl}

-- which sets are refused by their length
pub lengths-right : all right lengths ≡ true
unfolding right
lengths-right = refl

-- and which by a bit
pub bits-right : all right bits ≡ true
unfolding right
bits-right = refl

-- which rows
pub rows_right : all right rows ≡ true
unfolding right
rows_right = refl

-- which rows are in
pub members-right : all right members ≡ true
unfolding right
members-right = refl

-- single orders
pub singles-right : all right singles ≡ true
unfolding right
singles-right = refl

-- a strike and a restore of one row
pub turns-right : all right turns ≡ true
unfolding right
turns-right = refl

-- orders of two offices
pub offices-right : all right offices ≡ true
unfolding right
offices-right = refl

-- THE EXAMPLE OF R-12: of no rows struck, row 0 struck and then restored leaves none, and restored and then struck leaves it
pub one_row_example : (restored (struck (0 ∷ []) 0) 0 ≡ 0 ∷ []) × (struck (restored (0 ∷ []) 0) 0 ≡ 1 ∷ [])
unfolding restored struck
one_row_example = (refl, refl)
