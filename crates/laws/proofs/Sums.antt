-- Laws of a sum over 0 .. k. Assumes nothing.
use Prim.Native.Nat.{◌*◌, ◌+◌, ◌<◌, ◌≤◌, suc, zero, ℕ}
use Rattle.laws.specs.Upto.{sum_to}
use mathlib.Core.Logic.{◌≢◌}
use mathlib.Core.Path.{◌∙◌, ◌≡◌, ap, refl}
use native.Mathlib.Decide.{dec_lt, ℕ_discrete}
use native.Mathlib.Nat.{mul-suc}
use native.Mathlib.Numerals.{add-one}
use native.Mathlib.Omega.{arith}

-- ---- none, and one more
-- the sum of nothing
pub sum_none : (f : ℕ → ℕ) → sum_to f 0 ≡ 0
unfolding sum_to
sum_none f = refl

-- the sum with one more part
pub sum_next : (f : ℕ → ℕ) (k : ℕ) → sum_to f (k + 1) ≡ sum_to f k + f k
unfolding sum_to
sum_next f k = rw add-one

-- ---- sums compare as their parts do
-- parts that are no more: the sum is no more
pub sum_below_le : (f g : ℕ → ℕ) (k : ℕ) → ((j : ℕ) → j < k → f j ≤ g j) → sum_to f k ≤ sum_to g k
unfolding sum_to
sum_below_le f g zero h = omega arith
sum_below_le f g (suc k) h = omega (arith, sum_below_le f g k (λ j l. h j (omega arith)), h k (omega arith))

-- parts that are equal: the sum is equal
pub sum_below-same : (f g : ℕ → ℕ) (k : ℕ) → ((j : ℕ) → j < k → f j ≡ g j) → sum_to f k ≡ sum_to g k
unfolding sum_to
sum_below-same f g zero h = refl
sum_below-same f g (suc k) h = omega (arith, sum_below-same f g k (λ j l. h j (omega arith)), h k (omega arith))

-- parts that are no more than two others' together: the sum is no more than theirs
pub sum_triangle : (f g e : ℕ → ℕ) → ((j : ℕ) → f j ≤ g j + e j) → (k : ℕ) → sum_to f k ≤ sum_to g k + sum_to e k
unfolding sum_to
sum_triangle f g e h zero = omega arith
sum_triangle f g e h (suc k) = omega (arith, sum_triangle f g e h k, h k)

-- k parts of at most m: the sum is at most m * k
pub sum_most : (f : ℕ → ℕ) (m : ℕ) → ((j : ℕ) → f j ≤ m) → (k : ℕ) → sum_to f k ≤ m * k
unfolding sum_to
sum_most f m h zero = omega arith
sum_most f m h (suc k) = rw mul-suc (omega (arith, sum_most f m h k, h k))

-- ---- a sum is 0 exactly if each part is
-- parts that are 0: the sum is 0
pub sum_below-zero : (f : ℕ → ℕ) (k : ℕ) → ((j : ℕ) → j < k → f j ≡ 0) → sum_to f k ≡ 0
unfolding sum_to
sum_below-zero f zero h = refl
sum_below-zero f (suc k) h = omega (arith, sum_below-zero f k (λ j l. h j (omega arith)), h k (omega arith))

-- a part with all before it is no more than the whole
pub sum_part : (f : ℕ → ℕ) (k j : ℕ) → j < k → sum_to f j + f j ≤ sum_to f k
unfolding sum_to
sum_part f zero j h = absurd (omega arith)
sum_part f (suc k) j h = at (ℕ_discrete j k) (λ l. sum_part f k j l)
  where
    at : Dec (j ≡ k) → (j < k → sum_to f j + f j ≤ sum_to f k) → sum_to f j + f j ≤ sum_to f k + f k
    at (yes e) ih = omega (arith, ap f e, ap (sum_to f) e)
    at (no e) ih = omega (arith, ih (omega arith))

-- a sum that is not 0 has a part that is not
pub sum_some : (f : ℕ → ℕ) (k : ℕ) → 0 < sum_to f k → (j : ℕ) × (j < k) × (0 < f j)
unfolding sum_to
sum_some f zero h = absurd (omega arith)
sum_some f (suc k) h = at (dec_lt 0 (f k)) (λ l. sum_some f k l)
  where
    more : (j : ℕ) × (j < k) × (0 < f j) → (j : ℕ) × (j < suc k) × (0 < f j)
    more p = (p.0, omega (arith, p.1), p.2)

    at : Dec (0 < f k) → (0 < sum_to f k → (j : ℕ) × (j < k) × (0 < f j)) → (j : ℕ) × (j < suc k) × (0 < f j)
    at (yes q) ih = (k, omega arith, q)
    at (no q) ih = more (ih (omega arith))

-- ---- sums taken apart
-- k ones make k
pub sum_ones : (k : ℕ) → sum_to (λ (j : ℕ). 1) k ≡ k
unfolding sum_to
sum_ones zero = refl
sum_ones (suc k) = omega (arith, sum_ones k)

-- a sum of sums, part by part or one after the other
pub sum_add : (f g : ℕ → ℕ) (k : ℕ) → sum_to (λ (j : ℕ). f j + g j) k ≡ sum_to f k + sum_to g k
unfolding sum_to
sum_add f g zero = refl
sum_add f g (suc k) = omega (arith, sum_add f g k)

-- the sum of a + b parts: the first a, and b more
pub sum_split : (f : ℕ → ℕ) (a b : ℕ) → sum_to f (a + b) ≡ sum_to f a + sum_to (λ (j : ℕ). f (a + j)) b
unfolding sum_to
sum_split f a zero =
    let e : a + 0 ≡ a = omega arith in
    ap (sum_to f) e ∙ omega arith
sum_split f a (suc b) =
    let e : a + suc b ≡ suc (a + b) = omega arith in
    ap (sum_to f) e ∙ omega (arith, sum_split f a b)

-- the first part apart
pub sum_front : (f : ℕ → ℕ) (k : ℕ) → sum_to f (suc k) ≡ f 0 + sum_to (λ (j : ℕ). f (suc j)) k
unfolding sum_to
sum_front f zero = omega arith
sum_front f (suc k) = omega (arith, sum_front f k)

-- the same of a sum over a .. a + k
pub sum_from : (f : ℕ → ℕ) (a k : ℕ) → sum_to (λ (j : ℕ). f (a + j)) (suc k) ≡ f a + sum_to (λ (j : ℕ). f (suc a + j)) k
sum_from f a k =
    omega (
      arith,
      sum_front (λ (j : ℕ). f (a + j)) k,
      ap f (start a),
      sum_below-same (λ (j : ℕ). f (a + suc j)) (λ (j : ℕ). f (suc a + j)) k (λ j l. ap f (next a j)),
    )
  where
    start : (a : ℕ) → a + 0 ≡ a
    start a = omega arith

    next : (a j : ℕ) → a + suc j ≡ suc a + j
    next a j = omega arith

-- ---- one part that is another, and two that are exchanged
-- where one part alone is changed, the sum changes as it does
pub sum_change : (f g : ℕ → ℕ) (k i : ℕ) → i < k → ((j : ℕ) → j < k → j ≢ i → g j ≡ f j) → sum_to g k + f i ≡ sum_to f k + g i
unfolding sum_to
sum_change f g zero i h o = absurd (omega arith)
sum_change f g (suc k) i h o = at (ℕ_discrete k i) (λ l. sum_change f g k i l (λ j m. o j (omega arith)))
  where
    at : Dec (k ≡ i) → (i < k → sum_to g k + f i ≡ sum_to f k + g i) → (sum_to g k + g k) + f i ≡ (sum_to f k + f k) + g i
    at (yes e) ih = omega (arith, ap f e, ap g e, sum_below-same g f k (λ j l. o j (omega arith) (omega arith)))
    at (no e) ih = omega (arith, ih (omega arith), o k (omega arith) e)
