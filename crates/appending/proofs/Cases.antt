-- The appended index is the one that another hand worked out. Assumes nothing.
use Rattle.appending.specs.Cases.{deepest, marked, ours, right, seam, unbuilt}
use Rattle.laws.specs.Lists.{all}
use mathlib.Core.Bool.{true}
use mathlib.Core.Path.{◌≡◌, refl}

-- each of the marked cases
pub marked-right : all right marked ≡ true
unfolding right
marked-right = refl

-- each of ours
pub ours-right : all right ours ≡ true
unfolding right
ours-right = refl

-- each of those whose words no build gives
pub unbuilt-right : all right unbuilt ≡ true
unfolding right
unbuilt-right = refl

-- each of those on a circle
pub seam-right : all right seam ≡ true
unfolding right
seam-right = refl

-- the leaf at depth 24
pub deepest-right : right deepest ≡ true
unfolding right
deepest-right = refl
