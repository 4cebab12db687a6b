-- Appends one after the other: what the call's outcome is held to. Assumes nothing.
use Rattle.std.specs.Prelude.{◌*◌, ◌+◌, ◌≤◌, suc, zero, ℕ, length, take, List}
use Rattle.append.specs.Calls.{Appends}
use Rattle.build_refusals.specs.Numbers.{room_of}
use Rattle.swelling.specs.Rows.{first_rows_lem}
use Rattle.words.specs.Words.{n#}

-- k calls of append, the first with the index w; the last has written w'. Each is lent the table's rows as far as the one that it puts in, the index
-- that the one before has written, and a room and a workspace that are long enough
pub data AppendsInTurn (T : List ℕ) (c : ℕ) : ℕ → List ℕ → List ℕ → Type 0 where
  none : {w : List ℕ} → AppendsInTurn T c zero w w
  then : {k : ℕ} {w w' room work room' work' : List ℕ} {number words nodes : ℕ}
      → Appends (first_rows_lem T c (n# w + 1)) c w room work room' work' number words nodes → room_of (n# w + 1) ≤ length room
      → 6 * (n# w + 1) ≤ length work → AppendsInTurn T c k (take words room') w' → AppendsInTurn T c (suc k) w w'
