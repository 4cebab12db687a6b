-- What the call promises: 02, R-2. Assumes nothing.
use Rattle.std.specs.Prelude.{◌*◌, ◌≤◌, ℕ, eqb, drop, length, replicate, cond, List, ◌++◌, ◌≡◌}
use Rattle.append_refusals.specs.Numbers.{said_append}
use Rattle.appending.specs.Append.{appended}
use Rattle.build_refusals.specs.Numbers.{room_of}
use Rattle.laws.specs.Every.{Every}
use Rattle.limits.specs.Limits.{max_rows}
use Rattle.limits.specs.Said.{Said}
use Rattle.measure.specs.Table.{rows_of}
use Rattle.words.specs.Words.{nodes#}

-- What a call promises that puts the table's last rows into an index of those before them: `says` is what it says and `grown` are the words that it
-- writes. For every input: the number is the first that applies. On 0 these words stand at the front of the room and the first 6n words of the
-- workspace are zero, both as they were beyond that; on a refusal both are as they were and the counts are 0
pub record Grows (says : List ℕ → ℕ → List ℕ → ℕ → ℕ → Said) (grown : List ℕ → ℕ → List ℕ → List ℕ)
    (T : List ℕ) (c : ℕ) (w room work room' work' : List ℕ) (number words nodes : ℕ) : Type 0 where
  pub said : number ≡ (says T c w (length room) (length work)).0
  pub counted : (words ≡ cond (eqb number 0) (length (grown T c w)) 0) × (nodes ≡ cond (eqb number 0) (nodes# (grown T c w)) 0)
  pub index : room' ≡ cond (eqb number 0) (grown T c w ++ drop (length (grown T c w)) room) room
  -- the table's numbers have 16 bits, as every lent table's have: `append_accepted` rests on it
  pub narrow : Every (λ v. v ≤ 65535) T
  -- whatever is lent, 32 bits hold the counts
  pub small : (words ≤ room_of max_rows) × (nodes ≤ 2 * max_rows)
  pub cleared : work' ≡ cond (eqb number 0) (replicate (6 * rows_of T c) 0 ++ drop (6 * rows_of T c) work) work

-- append: the index with the table's last row in it is written
abbrev pub Appends : List ℕ → ℕ → List ℕ → List ℕ → List ℕ → List ℕ → List ℕ → ℕ → ℕ → ℕ → Type 0
Appends T c w room work room' work' number words nodes = Grows said_append appended T c w room work room' work' number words nodes
