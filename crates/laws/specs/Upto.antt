-- What a loop over 0 .. k gathers: a sum, and a greatest number. Assumes nothing.
use Rattle.std.specs.Prelude.{◌+◌, max, suc, zero, ℕ}

-- f 0 + f 1 + .. + f (k - 1)
unfoldable pub sum_to : (ℕ → ℕ) → ℕ → ℕ
sum_to f zero = 0
sum_to f (suc k) = sum_to f k + f k

-- the greatest of f 0, f 1, .. f (k - 1), 0 where k is 0
unfoldable pub most_to : (ℕ → ℕ) → ℕ → ℕ
most_to f zero = 0
most_to f (suc k) = max (most_to f k) (f k)
