-- The index with several rows more is the one that another hand worked out, row by row. Assumes nothing.
use Rattle.laws.specs.Lists.{all}
use Rattle.swelling.specs.Cases.{deepest, fresh, right, several, single, unbuilt}
use mathlib.Core.Bool.{true}
use mathlib.Core.Path.{◌≡◌, refl}

-- rows for several leaves
pub several-right : all right several ≡ true
unfolding right
several-right = refl

-- rows for one leaf
pub single-right : all right single ≡ true
unfolding right
single-right = refl

-- on an empty table
pub fresh-right : all right fresh ≡ true
unfolding right
fresh-right = refl

-- words that no build gives
pub unbuilt-right : all right unbuilt ≡ true
unfolding right
unbuilt-right = refl

-- down to depth 24
pub deepest-right : right deepest ≡ true
unfolding right
deepest-right = refl
