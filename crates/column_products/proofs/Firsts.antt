-- The first number that passes a test. Assumes nothing.
use Prim.Native.Nat.{◌+◌, ◌<◌, ◌≤◌, suc, zero, ℕ}
use Rattle.column_products.specs.Chosen.{first_to}
use borrow.Author.Tests.{le-ltb, lt-ltb, ltb-false, ltb-true}
use lib.Dec.{ltb}
use mathlib.Core.Bool.{Bool, cond, false, true}
use mathlib.Core.Path.{◌∙◌, ◌≡◌, ap, refl}
use native.Mathlib.Decide.{ℕ_discrete}
use native.Mathlib.Numerals.{add-one}
use native.Mathlib.Omega.{arith}

module _ (f : ℕ → Bool) where
  -- before the search
  pub first-none : first_to f 0 ≡ 0
  unfolding first_to
  first-none = refl

  -- one that fails is passed by
  pub first_on : {i : ℕ} → first_to f i ≡ i → f i ≡ false → first_to f (i + 1) ≡ i + 1
  unfolding first_to
  first_on {i} e n = rw (add-one, e, le-ltb i i (omega arith), n) refl

  -- one that passes is the first, whatever comes behind it
  pub first-here : {i : ℕ} (k : ℕ) → first_to f i ≡ i → f i ≡ true → i < k → first_to f k ≡ i
  unfolding first_to
  first-here zero e y h = absurd (omega arith)
  first-here {i} (suc k) e y h = go (ℕ_discrete i k) (first-here k e y)
    where
      go : Dec (i ≡ k) → (i < k → first_to f k ≡ i) → cond (ltb (first_to f k) k) (first_to f k) (cond (f k) k (suc k)) ≡ i
      go (yes q) ih = rw (← q, e, le-ltb i i (omega arith), y) refl
      go (no q) ih =
          let p : first_to f k ≡ i = ih (omega arith) in
          rw (p, lt-ltb i k (omega arith)) refl

  -- no more than k
  pub first-most : (k : ℕ) → first_to f k ≤ k
  unfolding first_to
  first-most zero = omega arith
  first-most (suc k) = go (ltb (first_to f k) k) (f k) (first-most k)
    where
      go : (a b : Bool) → first_to f k ≤ k → cond a (first_to f k) (cond b k (suc k)) ≤ suc k
      go true b h = omega arith
      go false true h = omega arith
      go false false h = omega arith

  -- none before it passes
  pub first_below : (k j : ℕ) → j < first_to f k → f j ≡ false
  unfolding first_to
  first_below zero j h = absurd (omega arith)
  first_below (suc k) j h = go (ltb (first_to f k) k) (f k) refl refl h (first_below k j)
    where
      go : (a b : Bool) → ltb (first_to f k) k ≡ a → f k ≡ b → j < cond a (first_to f k) (cond b k (suc k)) → (j < first_to f k → f j ≡ false) → f j ≡ false
      go true b p q h ih = ih h
      go false true p q h ih = ih (omega (arith, ltb-false (first_to f k) k p))
      go false false p q h ih = at (ℕ_discrete j k)
        where
          at : Dec (j ≡ k) → f j ≡ false
          at (yes e) = ap f e ∙ q
          at (no e) = ih (omega (arith, ltb-false (first_to f k) k p))

  -- and it passes, where it is not k
  pub first_passes : (k : ℕ) → first_to f k < k → f (first_to f k) ≡ true
  unfolding first_to
  first_passes zero h = absurd (omega arith)
  first_passes (suc k) h = go (ltb (first_to f k) k) (f k) refl refl h (first_passes k)
    where
      go : (a b : Bool) → ltb (first_to f k) k ≡ a → f k ≡ b → cond a (first_to f k) (cond b k (suc k)) < suc k
          → (first_to f k < k → f (first_to f k) ≡ true) → f (cond a (first_to f k) (cond b k (suc k))) ≡ true
      go true b p q h ih = ih (ltb-true (first_to f k) k p)
      go false true p q h ih = q
      go false false p q h ih = absurd (omega arith)
