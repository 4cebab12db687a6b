-- Ranges of numbers: joined, looked up, and a fact or a test of each of their numbers. Assumes nothing.
use Prim.Native.Nat.{◌+◌, ◌-◌, ◌<◌, ◌≤◌, suc, zero, ℕ}
use Rattle.laws.proofs.Every.{every_append}
use Rattle.laws.specs.Every.{Every}
use Rattle.laws.specs.Lists.{all, range}
use lib.ListN.{get_or, length}
use mathlib.Core.Bool.{Bool, false, true}
use mathlib.Core.List.{◌++◌, ◌∷◌, map}
use mathlib.Core.Path.{◌∙◌, ◌≡◌, ap, refl, subst, sym}
use native.Mathlib.Nat.{add-suc, add-zero, not-suc-le-zero, suc-add, zero-add}
use native.Mathlib.Numerals.{add-one}
use native.Mathlib.Omega.{arith}

-- a range of a + b numbers: the first a, and b more
pub range_append : (s a b : ℕ) → range s (a + b) ≡ range s a ++ range (s + a) b
range_append s zero b = rw (zero-add, add-zero)
range_append s (suc a) b = rw (suc-add, add-suc, ← suc-add s a) (ap (λ r. s ∷ r) (range_append (suc s) a b))

-- a range has as many numbers as it says
pub range_length : (a n : ℕ) → length (range a n) ≡ n
range_length a zero = refl
range_length a (suc n) = ap suc (range_length (suc a) n)

-- the i-th of a range, mapped
pub get_d_range : (f : ℕ → ℕ) (a n i : ℕ) → i < n → get_or (map f (range a n)) i 0 ≡ f (a + i)
get_d_range f a zero i h = absurd (not-suc-le-zero h)
get_d_range f a (suc n) zero h = ap f (omega arith)
get_d_range f a (suc n) (suc i) h = get_d_range f (suc a) n i (omega arith) ∙ ap f (omega arith)

-- ---- a fact of every number of a range
module _ (P : ℕ → Type 0) where
  -- it holds of the i-th
  pub every-range : (a n i : ℕ) → Every P (range a n) → i < n → P (a + i)
  every-range a zero i h k = absurd (not-suc-le-zero k)
  every-range a (suc n) zero h k = rw add-zero h.0
  every-range a (suc n) (suc i) h k = rw (add-suc a i, ← suc-add a i) (every-range (suc a) n i h.1 (omega arith))

  -- it holds of all if it does of each i-th
  pub range-every : (a n : ℕ) → ((i : ℕ) → i < n → P (a + i)) → Every P (range a n)
  range-every a zero f = tt
  range-every a (suc n) f =
      (rw add-zero at (f 0 (omega arith)), range-every (suc a) n (λ i k. rw (add-suc a i, ← suc-add a i) at (f (suc i) (omega arith))))

  -- it holds of a range's two parts, and so of the range
  pub every-range-append : (j a b : ℕ) → Every P (range j a) → Every P (range (j + a) b) → Every P (range j (a + b))
  every-range-append j a b x y = rw (range_append j a b) (every_append P (range j a) (range (j + a) b) x y)

  -- a range from 0 on
  pub every-at : (n i : ℕ) → Every P (range 0 n) → i < n → P i
  every-at n i h k = rw zero-add at (every-range 0 n i h k)

  -- and the other way
  pub at_every : (n : ℕ) → ((i : ℕ) → i < n → P i) → Every P (range 0 n)
  at_every n f = range-every 0 n (λ i h. subst P (sym (zero-add i)) (f i h))

-- ---- a test passed by every number of a range, front first
module _ (f : ℕ → Bool) where
  -- before the first number
  pub all_start : (n : ℕ) → all f (range 0 n) ≡ all f (range 0 (n - 0))
  all_start n =
      let q : n - 0 ≡ n = omega arith in
      rw q

  -- a number that fails: the test fails
  pub all-stop : (i n : ℕ) → i < n → f i ≡ false → false ≡ all f (range i (n - i))
  all-stop i n h e =
      let q : n - i ≡ suc (n - suc i) = omega arith in
      rw (q, e)

  -- a number that passes: the others decide
  pub all-step : (i n : ℕ) → i < n → f i ≡ true → all f (range i (n - i)) ≡ all f (range (i + 1) (n - (i + 1)))
  all-step i n h e =
      let q : n - i ≡ suc (n - suc i) = omega arith in
      rw (add-one i, q, e)

  -- after the last number: the test passes
  pub all_end : (i n : ℕ) → n ≤ i → true ≡ all f (range i (n - i))
  all_end i n h =
      let q : n - i ≡ 0 = omega arith in
      rw q
