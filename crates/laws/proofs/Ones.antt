-- Laws of the weight `is`, which is 1 at one number and 0 elsewhere, and of a sum that is 0. Assumes nothing.
use Prim.Native.Nat.{◌<◌, ◌≤◌, ℕ}
use Rattle.laws.proofs.Sums.{sum_part}
use Rattle.laws.specs.Bags.{is}
use Rattle.laws.specs.Upto.{sum_to}
use mathlib.Core.Path.{◌≡◌}
use native.Mathlib.Omega.{arith}

-- 1 at the number itself
pub is_self : (r : ℕ) → is r r ≡ 1
is_self r = omega arith

-- it is that number where the weight is not 0
pub is_same : (a b : ℕ) → 0 < is a b → a ≡ b
is_same a b p = omega arith

-- 0 at any other
pub is-not : (r v : ℕ) → (r ≡ v → ⊥) → is r v ≡ 0
is-not r v ne = omega arith

-- never more than 1
pub is_bit : (r s : ℕ) → is r s ≤ 1
is_bit r s = omega arith

-- where a sum is 0, so is each part
pub sum_each_none : (f : ℕ → ℕ) (k : ℕ) → sum_to f k ≡ 0 → (j : ℕ) → j < k → f j ≡ 0
sum_each_none f k e j h = omega (arith, sum_part f k j h)
