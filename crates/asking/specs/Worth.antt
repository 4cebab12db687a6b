-- The number that a word of the arguments says. Assumes nothing.
use Rattle.std.specs.Prelude.{◌*◌, ◌+◌, ◌-◌, min, ℕ, cond, List, [], ◌∷◌}
use Rattle.limits.specs.Limits.{within}

-- a digit behind the value; 10,000,000 stands for everything else, and for every number from there on
unfoldable pub behind : ℕ → ℕ → ℕ
behind value b = cond (within 48 57 b) (min (10 * value + (b - 48)) 10_000_000) 10_000_000

-- all digits of a word behind the value
unfoldable pub from : ℕ → List ℕ → ℕ
from value [] = value
from value (b ∷ t) = from (behind value b) t

-- an empty word says no number
abbrev pub worth : List ℕ → ℕ
worth [] = 10_000_000
worth (b ∷ t) = from 0 (b ∷ t)
