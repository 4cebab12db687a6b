-- The cases come out as they should. Assumes nothing.
use Rattle.cases.specs.Table.{holds, marked, ours}
use Rattle.laws.specs.Lists.{all}
use lib.Dec.{T}
use mathlib.Core.List.{◌++◌}

-- EVERY CASE OF THE TABLE IS RIGHT, COMPUTED
pub cases : T (all holds (marked ++ ours))
unfolding holds
cases = tt
