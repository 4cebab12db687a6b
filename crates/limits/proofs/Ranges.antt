-- Numbers in range: the tests of the limits, read as bounds. Assumes nothing.
use Prim.Native.Nat.{◌/◌, ◌<◌, ◌^◌, ◌≤◌, ℕ}
use Rattle.laws.proofs.Tests.{and_l, and_r, holds, is_true}
use Rattle.limits.specs.Limits.{circles_ok_lem, columns_ok_lem, max_columns, share_ok_lem, within}
use borrow.Author.Tests.{eq-eqb, le-leb}
use lib.Dec.{leb, leb→le}
use mathlib.Core.Bool.{true}
use mathlib.Core.Path.{◌≡◌, sym}
use native.Mathlib.Nat.{div-eq_of_lt, le_trans, pow-le-pow_right}
use native.Mathlib.Omega.{arith}

module _ (low high x : ℕ) where
  -- a number in range lies between the bounds
  pub within_both : within low high x ≡ true → (low ≤ x) × (x ≤ high)
  within_both e =
      let t = holds (within low high x) e in
      (leb→le low x (and_l (leb low x) (leb x high) t), leb→le x high (and_r (leb low x) (leb x high) t))

  -- and one that lies there is in range
  pub both-within : low ≤ x → x ≤ high → within low high x ≡ true
  both-within p q = rw (le-leb low x p, le-leb x high q)

-- columns that are right are 1 to 16
pub columns_are : (c : ℕ) → columns_ok_lem c ≡ true → (1 ≤ c) × (c ≤ max_columns)
columns_are c e = within_both 1 max_columns c e

-- a set of 32 bits has none at or above 32
pub no_bit_above : (c o : ℕ) → 32 ≤ c → o < 4294967296 → true ≡ circles_ok_lem c o
no_bit_above c o h k =
    let p : 2 ^ 32 ≤ 2 ^ c = pow-le-pow_right (omega arith) {i = 32} {j = c} h in
    sym (eq-eqb (o / 2 ^ c) 0 (div-eq_of_lt (le_trans k p)))

-- m centres, 2 to 64, and a leaf size l, m to 1,024
pub record Shared (m l : ℕ) : Type 0 where
  pub two : 2 ≤ m
  pub most : m ≤ 64
  pub leafy : m ≤ l
  pub leaf : l ≤ 1_024

-- m and l that are right are those
pub shared : (m l : ℕ) → share_ok_lem m l ≡ true → Shared m l
shared m l e =
    let a = within 2 64 m in
    let b = within m 1_024 l in
    let t = holds (share_ok_lem m l) e in
    let p = within_both 2 64 m (is_true a (and_l a b t)) in
    let q = within_both m 1_024 l (is_true b (and_r a b t)) in
    record { two = p.0; most = p.1; leafy = q.0; leaf = q.1 }
