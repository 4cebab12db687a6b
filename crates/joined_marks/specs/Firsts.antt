-- The first items of a list, by a function. Assumes nothing.
use Rattle.std.specs.Prelude.{suc, zero, ℕ, List, [], ◌++◌, ◌∷◌}

-- f 0, f 1, .. f (n - 1)
unfoldable pub first_of : (ℕ → ℕ) → ℕ → List ℕ
first_of f zero = []
first_of f (suc n) = first_of f n ++ (f n ∷ [])
