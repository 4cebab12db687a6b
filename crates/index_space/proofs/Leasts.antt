-- Laws of the least of the numbers f 0, f 1, .. f c. Assumes nothing.
use Prim.Native.Nat.{◌+◌, ◌-◌, ◌≤◌, min, suc, zero, ℕ}
use Rattle.index_space.specs.Items.{least_to}
use Rattle.laws.specs.Lists.{head, range}
use mathlib.Core.List.{foldr, map}
use mathlib.Core.Path.{◌∙◌, ◌≡◌, ap, refl}
use native.Mathlib.Nat.{not-suc-le-zero}
use native.Mathlib.Omega.{arith}

-- numbers that are the same one by one have the same least
pub least-same : (f g : ℕ → ℕ) (c : ℕ) → ((j : ℕ) → j ≤ c → f j ≡ g j) → least_to f c ≡ least_to g c
least-same f g zero h = h 0 (omega arith)
least-same f g (suc c) h = cc (least-same f g c (λ j k. h j (omega arith)), h (suc c) (omega arith))

-- the least is at most the number in front
least_le : (f : ℕ → ℕ) (c : ℕ) → least_to f c ≤ f 0
least_le f zero = omega arith
least_le f (suc c) = omega (arith, least_le f c)

-- the least is the lesser of the number in front and the least of the others
least_front : (f : ℕ → ℕ) (c : ℕ) → least_to f (suc c) ≡ min (f 0) (least_to (λ (i : ℕ). f (suc i)) c)
least_front f zero = refl
least_front f (suc c) = omega (arith, least_front f c)

-- the least of a and the numbers of a range, folded as a list
least-range : (x f : ℕ → ℕ) (a j c : ℕ) → foldr min a (map x (map f (range j (suc c)))) ≡ min a (least_to (λ (i : ℕ). x (f (j + i))) c)
least-range x f a j zero =
    let e : j + 0 ≡ j = omega arith in
    omega (arith, ap (λ (z : ℕ). x (f z)) e)
least-range x f a j (suc c) =
    let e : j + 0 ≡ j = omega arith in
    let n : (i : ℕ) → suc j + i ≡ j + suc i = λ i. omega arith in
    omega (
      arith,
      ap (λ (z : ℕ). x (f z)) e,
      least-range x f a (suc j) c,
      least_front (λ (i : ℕ). x (f (j + i))) c,
      least-same (λ (i : ℕ). x (f (suc j + i))) (λ (i : ℕ). x (f (j + suc i))) c (λ i l. ap (λ (z : ℕ). x (f z)) (n i)),
    )

-- the least over a range that is not empty, folded from the number in front
pub least_all : (x f : ℕ → ℕ) (j m : ℕ) → 1 ≤ m
    → foldr min (x (head (map f (range j m)))) (map x (map f (range j m))) ≡ least_to (λ (i : ℕ). x (f (j + i))) (m - 1)
least_all x f j zero h = absurd (not-suc-le-zero h)
least_all x f j (suc c) h =
    let e : j + 0 ≡ j = omega arith in
    let l : c ≡ suc c - 1 = omega arith in
    least-range x f (x (f j)) j c ∙ omega (arith, least_le (λ (i : ℕ). x (f (j + i))) c, ap (λ (z : ℕ). x (f z)) e)
    ∙ ap (least_to (λ (i : ℕ). x (f (j + i)))) l
