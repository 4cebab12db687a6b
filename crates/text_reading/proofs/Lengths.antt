-- A readable text has at most 6 bytes for each of 1,027 numbers, so a longer one need not be kept whole to be refused. Assumes nothing.
use Prim.Native.Nat.{◌*◌, ◌<◌, ◌≤◌, suc, zero, ℕ}
use Rattle.text_reading.proofs.Readings.{said_what_is-read}
use Rattle.text_reading.specs.Reading.{numbers, readable}
use Rattle.text_reading.specs.Text.{Decimal, Readable, Says, digit, followed, last, last_line, more}
use lib.ListN.{length, length-append}
use mathlib.Core.Bool.{Bool, false, true}
use mathlib.Core.List.{List}
use mathlib.Core.Path.{◌≡◌, refl}
use native.Mathlib.Omega.{arith}

-- ten, a hundred, ..
abbrev tens : ℕ → ℕ
tens zero = 10
tens (suc k) = 10 * tens k

-- a number below 10 has one digit, one below 100 two at most, ..
decimal_length : {n : ℕ} {ds : List ℕ} (k : ℕ) → Decimal n ds → n < tens k → length ds ≤ suc k
decimal_length k (digit h) l = omega arith
decimal_length zero (followed x s h) l = absurd (omega arith)
decimal_length (suc k) (followed {ds = ds} x s h) l = simp length-append (omega (arith, decimal_length k x (omega arith)))

-- a text is at most six times as long as what it says
says-length : {t ns : List ℕ} → Says t ns → length t ≤ 6 * length ns
says-length (last x l) = omega (arith, decimal_length 4 x (omega arith))
says-length (last_line {ds = ds} x l) = simp length-append (omega (arith, decimal_length 4 x (omega arith)))
says-length (more {ds = ds} x l s y) = simp length-append (omega (arith, decimal_length 4 x (omega arith), says-length y))

-- NO TEXT OF MORE THAN 6,162 BYTES IS READABLE
pub long_unreadable : (t : List ℕ) → 6_162 < length t → readable t ≡ false
long_unreadable t h = go (readable t) refl
  where
    go : (b : Bool) → readable t ≡ b → b ≡ false
    go true e = let r : Readable t (numbers t) = said_what_is-read t e in absurd (omega (arith, says-length r.says, r.few))
    go false e = refl
