-- The set of circles bit by bit, in 02's words (R-1), both ways. Assumes nothing.
use Prim.Native.Nat.{◌%◌, ◌+◌, ◌-◌, ◌/◌, ◌<◌, ◌^◌, ◌≤◌, suc, zero, ℕ}
use Rattle.limits.specs.Limits.{circles_ok_lem}
use borrow.Author.Tests.{eq-eqb}
use lib.Dec.{T, eqb→eq}
use lib.Pow.{shr-shr}
use mathlib.Core.Bool.{true}
use mathlib.Core.Path.{◌∙◌, ◌≡◌, ap, subst, sym}
use native.Mathlib.Nat.{add-suc, add-zero, div-div-eq-div-mul, div-eq_of_lt, le_trans, pow-le-pow_right, pow-suc, zero-div}
use native.Mathlib.Omega.{arith}

-- a number is below its power of 2
below_power : (n : ℕ) → n < 2 ^ n
below_power zero = omega arith
below_power (suc n) = omega (arith, below_power n, pow-suc 2 n)

module _ (o : ℕ) where
  -- a set below 2 to the power j + 1 whose bit j is off is below 2 to the power j
  bit-less : (j : ℕ) → o / 2 ^ suc j ≡ 0 → o / 2 ^ j % 2 ≡ 0 → o / 2 ^ j ≡ 0
  bit-less j e b =
      let h : o / 2 ^ j / 2 ≡ 0 = div-div-eq-div-mul o (2 ^ j) 2 ∙ ap (λ (k : ℕ). o / k) (sym (pow-suc 2 j)) ∙ e in
      omega (arith, h, b)

  -- one below 2 to the power c + k, with all bits from c on off, is below 2 to the power c
  bits-less : (c k : ℕ) → ((j : ℕ) → c ≤ j → o / 2 ^ j % 2 ≡ 0) → o / 2 ^ (c + k) ≡ 0 → o / 2 ^ c ≡ 0
  bits-less c zero off e = subst (λ (j : ℕ). o / 2 ^ j ≡ 0) (add-zero c) e
  bits-less c (suc k) off e =
      bits-less c k off (bit-less (c + k) (subst (λ (j : ℕ). o / 2 ^ j ≡ 0) (add-suc c k) e) (off (c + k) (omega arith)))

  -- A SET THAT PASSES HAS NO BIT ON AT OR ABOVE c
  pub circles-plain : (c : ℕ) → T (circles_ok_lem c o) → (j : ℕ) → c ≤ j → o / 2 ^ j % 2 ≡ 0
  circles-plain c t j h =
      let e : c + (j - c) ≡ j = omega arith in
      let z : o / 2 ^ (c + (j - c)) ≡ 0 =
      sym (shr-shr o c (j - c)) ∙ ap (λ (k : ℕ). k / 2 ^ (j - c)) (eqb→eq (o / 2 ^ c) 0 t) ∙ zero-div (2 ^ (j - c)) in
      ap (λ (k : ℕ). k % 2) (subst (λ (k : ℕ). o / 2 ^ k ≡ 0) e z)

  -- AND ONE THAT HAS NONE PASSES
  pub circles-test : (c : ℕ) → ((j : ℕ) → c ≤ j → o / 2 ^ j % 2 ≡ 0) → circles_ok_lem c o ≡ true
  circles-test c off =
      let small : o < 2 ^ (c + o) = le_trans (below_power o) (pow-le-pow_right (omega arith) {i = o} {j = c + o} (omega arith)) in
      eq-eqb (o / 2 ^ c) 0 (bits-less c o off (div-eq_of_lt small))
