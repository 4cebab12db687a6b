-- A text read byte by byte, front first: what its reader knows at each place, and the numbers it has then. Assumes nothing.
use Rattle.std.specs.Prelude.{◌*◌, ◌+◌, ◌-◌, ℕ, eqb, leb, length, Bool, ◌&&◌, ◌||◌, cond, false, true, List, [], ◌++◌, ◌∷◌}
use Rattle.limits.specs.Limits.{within}
use Rattle.text_reading.specs.declared.Place.TheVariants.{Inside, Line, Lost, Start}
use Rattle.text_reading.specs.declared.Place.{Place}

-- the byte is a space or a newline
unfoldable pub parting : ℕ → Bool
parting b = eqb b 32 || eqb b 10

-- where a number must start: a digit, and no other byte
unfoldable pub begun : ℕ → Place
begun b = cond (within 48 57 b) (Inside (b - 48)) Lost

-- inside a number with the value v, a digit: not behind 0, and not beyond 65,535
unfoldable pub grown : ℕ → ℕ → Place
grown v d = cond (leb 1 v && leb (10 * v + d) 65_535) (Inside (10 * v + d)) Lost

-- inside a number with the value v: a space or a newline ends it, and a digit goes behind it
unfoldable pub onward : ℕ → ℕ → Place
onward v b = cond (eqb b 32) Start (cond (eqb b 10) Line (cond (within 48 57 b) (grown v (b - 48)) Lost))

-- where the reader stands after one more byte
abbrev pub stepped : Place → ℕ → Place
stepped Start b = begun b
stepped Line b = begun b
stepped (Inside v) b = onward v b
stepped Lost b = Lost

-- the number that ends here
abbrev pub ended : Place → List ℕ
ended Start = []
ended Line = []
ended (Inside v) = v ∷ []
ended Lost = []

-- the number that ends where the byte b follows
unfoldable pub ended_by : Place → ℕ → List ℕ
ended_by p b = cond (parting b) (ended p) []

-- where the reader stands behind the whole text
unfoldable pub behind : Place → List ℕ → Place
behind p [] = p
behind p (b ∷ t) = behind (stepped p b) t

-- the numbers that end in the text or at its end, in order
unfoldable pub found : Place → List ℕ → List ℕ
found p [] = ended p
found p (b ∷ t) = ended_by p b ++ found (stepped p b) t

-- a text may end inside a number and behind a newline
abbrev pub ends : Place → Bool
ends Start = false
ends Line = true
ends (Inside v) = true
ends Lost = false

-- the numbers of a text that is readable
abbrev pub numbers : List ℕ → List ℕ
numbers t = found Start t

-- 01, Numbers given back, 18: exactly where this is false
unfoldable pub readable : List ℕ → Bool
readable t = ends (behind Start t) && within 3 1_027 (length (numbers t))

-- how many numbers a readable text has, 0 for any other
unfoldable pub how_many : List ℕ → ℕ
how_many t = cond (readable t) (length (numbers t)) 0
