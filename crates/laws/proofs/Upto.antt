-- Laws of the greatest number that a loop over 0 .. k meets. Assumes nothing.
use Prim.Native.Nat.{◌+◌, ◌<◌, ◌≤◌, max, suc, zero, ℕ}
use Rattle.laws.specs.Upto.{most_to}
use mathlib.Core.Logic.{by_cases}
use mathlib.Core.Path.{◌≡◌, ap, refl}
use native.Mathlib.Decide.{dec_lt}
use native.Mathlib.Nat.{not-suc-le-zero}
use native.Mathlib.Numerals.{add-one}
use native.Mathlib.Omega.{arith}

-- the greatest of nothing
pub most-none : (f : ℕ → ℕ) → most_to f 0 ≡ 0
unfolding most_to
most-none f = refl

-- the greatest with one more
pub most-next : (f : ℕ → ℕ) (k : ℕ) → most_to f (k + 1) ≡ max (most_to f k) (f k)
unfolding most_to
most-next f k = rw add-one

-- no number is above the greatest
pub most_above : (f : ℕ → ℕ) (k i : ℕ) → i < k → f i ≤ most_to f k
unfolding most_to
most_above f zero i h = absurd (not-suc-le-zero h)
most_above f (suc k) i h =
    by_cases (dec_lt i k) (λ l. omega (arith, most_above f k i l))
    (λ l.
    let e : k ≡ i = omega arith in
    omega (arith, ap f e))

-- and it is at most what all are
pub most-least : (f : ℕ → ℕ) (k b : ℕ) → ((i : ℕ) → i < k → f i ≤ b) → most_to f k ≤ b
unfolding most_to
most-least f zero b h = omega arith
most-least f (suc k) b h = omega (arith, most-least f k b (λ i l. h i (omega arith)), h k (omega arith))
