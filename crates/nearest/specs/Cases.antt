-- What the call gives in the nearest cases of 01, The five-row table, and in ours. Assumes nothing.
use Rattle.std.specs.Prelude.{◌≤◌, min, ℕ, drop, length, List, [], ◌++◌, ◌∷◌, map, ◌≡◌}
use Rattle.nearest_steps.specs.Asked.{NearestLent, asks}
use Rattle.nearest.specs.Calls.{Answered}
use Rattle.tree.specs.Cases.{five, five_words}

-- a query, how many are wanted, the set of rows that are withdrawn, the answers, the how-bytes, and how many rows are measured
pub record Case : Type 0 where
  pub query : ℕ
  pub wanted : ℕ
  pub withdrawn : List ℕ
  pub answers : List (ℕ × ℕ)
  pub bytes : List ℕ
  pub met : ℕ

-- the four that 01 marks P, with no row withdrawn, and one that tells a home bound equal to D
abbrev pub asked : List Case
asked =
    record { query = 9; wanted = 1; withdrawn = 0 ∷ []; answers = (2, 1) ∷ []; bytes = 1 ∷ 0 ∷ 3 ∷ 0 ∷ 1 ∷ []; met = 3 }
    ∷ record { query = 9; wanted = 2; withdrawn = 0 ∷ []; answers = (2, 1) ∷ (3, 2) ∷ []; bytes = 1 ∷ 0 ∷ 3 ∷ 3 ∷ 1 ∷ []; met = 4 }
    ∷ record { query = 5; wanted = 2; withdrawn = 0 ∷ []; answers = (1, 4) ∷ (0, 5) ∷ []; bytes = 3 ∷ 3 ∷ 1 ∷ 0 ∷ 1 ∷ []; met = 4 }
    ∷ record {
      query = 9;
      wanted = 9;
      withdrawn = 0 ∷ [];
      answers = (2, 1) ∷ (3, 2) ∷ (1, 8) ∷ (0, 9) ∷ (4, 11) ∷ [];
      bytes = 3 ∷ 3 ∷ 3 ∷ 3 ∷ 3 ∷ [];
      met = 5;
    }
    ∷ record { query = 6; wanted = 2; withdrawn = 0 ∷ []; answers = (2, 4) ∷ (1, 5) ∷ []; bytes = 1 ∷ 3 ∷ 3 ∷ 1 ∷ 1 ∷ []; met = 5 }
    ∷ []

-- with rows withdrawn: row 2, row 0, and all of them
abbrev pub struck_out : List Case
struck_out =
    record { query = 9; wanted = 1; withdrawn = 4 ∷ []; answers = (3, 2) ∷ []; bytes = 1 ∷ 0 ∷ 1 ∷ 3 ∷ 1 ∷ []; met = 4 }
    ∷ record {
      query = 9;
      wanted = 9;
      withdrawn = 4 ∷ [];
      answers = (3, 2) ∷ (1, 8) ∷ (0, 9) ∷ (4, 11) ∷ [];
      bytes = 3 ∷ 3 ∷ 1 ∷ 3 ∷ 3 ∷ [];
      met = 5;
    }
    ∷ record { query = 5; wanted = 2; withdrawn = 1 ∷ []; answers = (1, 4) ∷ (2, 5) ∷ []; bytes = 1 ∷ 3 ∷ 3 ∷ 0 ∷ 1 ∷ []; met = 4 }
    ∷ record { query = 9; wanted = 1; withdrawn = 31 ∷ []; answers = []; bytes = 1 ∷ 1 ∷ 1 ∷ 1 ∷ 1 ∷ []; met = 5 }
    ∷ []

-- with the index of the five-row table, and with room enough, every outcome of the call has the number 0, these answers and how-bytes before
-- what was lent beyond them, and these counts
abbrev pub Gets : Case → Type 0
Gets k =
    (b b' : NearestLent) (number given met : ℕ) → min k.wanted 5 ≤ length b.rows → min k.wanted 5 ≤ length b.distances
    → 5 ≤ length b.how → 30 ≤ length b.work
    → Answered (asks five 1 five_words (k.query ∷ []) k.wanted k.withdrawn)
    (min (length b.rows) (length b.distances)) b b' number given met
    → (number ≡ 0) × (given ≡ length k.answers) × (met ≡ k.met)
    × (b'.rows ≡ map (λ a. a.0) k.answers ++ drop (length k.answers) b.rows)
    × (b'.distances ≡ map (λ a. a.1) k.answers ++ drop (length k.answers) b.distances) × (b'.how ≡ k.bytes ++ drop 5 b.how)

-- sets that are none of five rows: no word, two words, and the bit of row 5
abbrev pub wrong_sets : List (List ℕ)
wrong_sets = [] ∷ (0 ∷ 0 ∷ []) ∷ (32 ∷ []) ∷ []

-- with such a set the call says 20, where nothing else refuses it
abbrev pub Twenty : List ℕ → Type 0
Twenty s =
    (b b' : NearestLent) (number given met : ℕ) → 1 ≤ length b.rows → 1 ≤ length b.distances → 5 ≤ length b.how → 30 ≤ length b.work
    → Answered (asks five 1 five_words (9 ∷ []) 1 s) (min (length b.rows) (length b.distances)) b b' number given met → number ≡ 20
