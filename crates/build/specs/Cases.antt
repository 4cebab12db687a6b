-- The builds that 01 marks P, The five-row table: one column, m = 2 and l = 2. Assumes nothing.
use Rattle.std.specs.Prelude.{◌*◌, ◌≤◌, ℕ, drop, length, replicate, List, [], ◌++◌, ◌∷◌, ◌≡◌}
use Rattle.build_refusals.specs.Numbers.{room_of}
use Rattle.build.specs.Calls.{Builds}
use Rattle.tree.specs.Cases.{five, five_words}
use Rattle.words.specs.Words.{nodes#}

-- four equal rows
abbrev pub sevens : List ℕ
sevens = 7 ∷ 7 ∷ 7 ∷ 7 ∷ []

-- the words of their index
abbrev pub seven_words : List ℕ
seven_words =
    2 ∷ 4 ∷ 1 ∷ 2 ∷ 2 ∷ 5 ∷ 1 ∷ 0
    ∷ 0 ∷ 4 ∷ 1 ∷ 0 ∷ 0
    ∷ 0 ∷ 3 ∷ 3 ∷ 0 ∷ 0
    ∷ 3 ∷ 1 ∷ 0 ∷ 0 ∷ 0
    ∷ 0 ∷ 2 ∷ 0 ∷ 0 ∷ 0
    ∷ 2 ∷ 1 ∷ 0 ∷ 0 ∷ 0
    ∷ 0 ∷ 0 ∷ 3 ∷ 0 ∷ 2 ∷ 0 ∷ 1 ∷ 0 ∷ []

-- no rows
abbrev pub empty_words : List ℕ
empty_words = 2 ∷ 0 ∷ 1 ∷ 2 ∷ 2 ∷ 0 ∷ 1 ∷ 0 ∷ []

-- a table, and the words of its index
abbrev pub Case : Type 0
Case = List ℕ × List ℕ

-- the tables
abbrev pub table : List Case
table =
    (five, five_words)
    ∷ (sevens, seven_words)
    ∷ ([], empty_words)
    ∷ []

-- what the call left: number 0, the words in the room, counted, and the workspace cleared
pub record Left (T ws room work room' work' : List ℕ) (number words nodes : ℕ) : Type 0 where
  pub done : number ≡ 0
  pub long : words ≡ length ws
  pub many : nodes ≡ nodes# ws
  pub index : room' ≡ ws ++ drop (length ws) room
  pub cleared : work' ≡ replicate (6 * length T) 0 ++ drop (6 * length T) work

-- any call on the table, with room enough, leaves these words
abbrev pub Comes : Case → Type 0
Comes v =
    (room work room' work' : List ℕ) (number words nodes : ℕ) → room_of (length v.0) ≤ length room → 6 * length v.0 ≤ length work
    → Builds v.0 1 0 2 2 2 room work room' work' number words nodes → Left v.0 v.1 room work room' work' number words nodes
