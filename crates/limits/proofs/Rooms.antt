-- Rooms for so many rows, and how many rows there are, told without a product or a quotient that no number holds. Assumes nothing.
use Prim.Native.Nat.{◌*◌, ◌/◌, ◌<◌, ◌≤◌, ℕ}
use borrow.Author.Tests.{le-ltb, lt-ltb, ltb-false, ltb-true}
use lib.Dec.{ltb}
use mathlib.Core.Bool.{Bool, false, true}
use mathlib.Core.Path.{◌≡◌, refl, sym}
use native.Mathlib.Nat.{div-lt_iff_lt-mul, div-zero, mul_comm}
use native.Mathlib.Omega.{arith}

-- a room holds fewer than n rows exactly where it is shorter than n times what each takes
pub short_is : (room each n : ℕ) → 1 ≤ each → ltb (room / each) n ≡ ltb room (each * n)
short_is room each n h = go (ltb (room / each) n) refl
  where
    go : (b : Bool) → ltb (room / each) n ≡ b → b ≡ ltb room (each * n)
    go true e = sym (lt-ltb room (each * n) (rw (mul_comm each n) ((div-lt_iff_lt-mul h).0 (ltb-true (room / each) n e))))
    go false e =
        let no : room < n * each → ⊥ = λ l. omega (arith, (div-lt_iff_lt-mul h).1 l, ltb-false (room / each) n e) in
        sym (le-ltb room (each * n) (rw (mul_comm each n) (omega (arith, no))))

-- with no column there is no row
pub no_rows : (length : ℕ) {c : ℕ} → c ≡ 0 → 0 ≡ length / c
no_rows length e = rw e (sym (div-zero length))
