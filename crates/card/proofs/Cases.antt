-- The cases come out as they should. Assumes nothing.
use Rattle.card.specs.Cases.{circular, right, table}
use Rattle.laws.specs.Lists.{all}
use lib.Dec.{T}

-- EVERY CASE OF THE TABLE IS RIGHT, COMPUTED
pub read_cases : T (all right table)
unfolding right
read_cases = tt

-- SO IS EVERY ONE ON A CIRCLE
pub circular_cases : T (all right circular)
unfolding right
circular_cases = tt
