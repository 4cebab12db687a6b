-- Rows shared out by their places: where each place is one of n, all rows are among them. Assumes nothing.
use Prim.Native.Nat.{◌+◌, ◌<◌, ◌≤◌, suc, zero, ℕ}
use Rattle.laws.proofs.Lists.{tally_length}
use Rattle.laws.proofs.Shares.{bit, share}
use Rattle.laws.proofs.Times.{range-times}
use Rattle.laws.specs.Lists.{each, keep, range, times}
use borrow.Author.Tests.{eqb-false}
use lib.Dec.{eqb}
use lib.ListN.{length, length-append}
use mathlib.Core.Bool.{Bool, false, true}
use mathlib.Core.List.{List, [], ◌∷◌}
use mathlib.Core.Path.{◌∙◌, ◌≡◌, ap, refl, sym}
use native.Mathlib.Omega.{arith}

-- how many have a place among n from k on
abbrev pub routed : (ℕ → ℕ) → List ℕ → ℕ → ℕ → ℕ
routed place zs k zero = 0
routed place zs k (suc n) = length (keep (λ z. eqb (place z) k) zs) + routed place zs (suc k) n

-- they are those of each place together
routed_each : (place : ℕ → ℕ) (zs : List ℕ) (k n : ℕ) → routed place zs k n ≡ length (each (λ a. keep (λ z. eqb (place z) a) zs) (range k n))
routed_each place zs k zero = refl
routed_each place zs k (suc n) =
    omega (
      arith,
      routed_each place zs (suc k) n,
      length-append (keep (λ z. eqb (place z) k) zs) (each (λ a. keep (λ z. eqb (place z) a) zs) (range (suc k) n)),
    )

-- a number of a range stands in it
range_there : (a n i : ℕ) → a ≤ i → i < a + n → 1 ≤ times i (range a n)
range_there a zero i h k = absurd (omega arith)
range_there a (suc n) i h k = go (eqb i a) refl (λ u. range_there (suc a) n i u (omega arith))
  where
    go : (b : Bool) → eqb i a ≡ b → (suc a ≤ i → 1 ≤ times i (range (suc a) n)) → 1 ≤ bit b + times i (range (suc a) n)
    go true e ih = omega arith
    go false e ih = omega (arith, ih (omega (arith, eqb-false i a e)))

-- where each place is one of n, all rows are among them
pub routed_all : (place : ℕ → ℕ) (zs : List ℕ) (n : ℕ) → ((z : ℕ) → place z < n) → routed place zs 0 n ≡ length zs
routed_all place zs n h =
    routed_each place zs 0 n ∙ sym (tally_length (each (λ a. keep (λ z. eqb (place z) a) zs) (range 0 n)))
    ∙ share (λ i. true) place zs (range 0 n) (λ i. omega (arith, range-times (place i) 0 n, range_there 0 n (place i) (omega arith) (omega (arith, h i))))
    ∙ tally_length zs

-- all rows have the place 0
pub keep-zero : (zs : List ℕ) → keep (λ z. eqb 0 0) zs ≡ zs
keep-zero [] = refl
keep-zero (z ∷ zs) = ap (λ (k : List ℕ). z ∷ k) (keep-zero zs)
