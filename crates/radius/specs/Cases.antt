-- What the call gives in a case of 01, The five-row table, or of 02, R-1 or R-5. Assumes nothing.
use Rattle.std.specs.Prelude.{◌≤◌, ℕ, drop, length, List, [], ◌++◌, ◌∷◌, ◌≡◌}
use Rattle.radius.specs.Calls.{Searched}
use Rattle.tree.specs.Build.{build}

-- with how-bytes enough, every outcome of the call for the query q and r, the rows of the set s being withdrawn, on the table T of one column, which is
-- a circle where o is 1 and none where it is 0, with the index that is built over it with m = 2 and l = 2, has the number 0, these how-bytes in front of
-- those that were lent beyond n, and these counts
abbrev pub Gives : List ℕ → ℕ → ℕ → ℕ → List ℕ → List ℕ → ℕ → ℕ → Type 0
Gives T o q r s how i k =
    (before after : List ℕ) (number in# met : ℕ) → length T ≤ length before
    → Searched T 1 (build T 1 o 2 2 2) (q ∷ []) r s before after number in# met
    → (number ≡ 0) × (after ≡ how ++ drop (length T) before) × (in# ≡ i) × (met ≡ k)

-- with how-bytes enough, every outcome of the call for the query q, the set s being lent, on the table T with that index, is a refusal with the number k
abbrev pub Refuses : List ℕ → ℕ → ℕ → List ℕ → ℕ → Type 0
Refuses T o q s k =
    (r : ℕ) (before after : List ℕ) (number in# met : ℕ) → length T ≤ length before
    → Searched T 1 (build T 1 o 2 2 2) (q ∷ []) r s before after number in# met
    → (number ≡ k) × (in# ≡ 0) × (met ≡ 0) × (after ≡ before)
