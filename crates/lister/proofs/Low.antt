-- No number of a reading is above 18. Assumes nothing.
use Prim.Native.Nat.{◌≤◌, ℕ}
use Rattle.text_reading.specs.Calls.{said_read_lem}
use Rattle.text_reading.specs.Reading.{numbers, readable}
use lib.Dec.{ltb}
use lib.ListN.{length}
use mathlib.Core.Bool.{Bool, cond, false, true}
use mathlib.Core.List.{List}
use mathlib.Core.Path.{◌≡◌, subst, sym}
use native.Mathlib.Omega.{arith}

-- 18, 5 or 0
text_cases : (a b : Bool) → cond {A = ℕ} a (cond b 5 0) 18 ≤ 18
text_cases true true = omega arith
text_cases true false = omega arith
text_cases false b = omega arith

-- the number of a reading
pub text_low : (t : List ℕ) (room number : ℕ) → number ≡ said_read_lem t room → number ≤ 18
unfolding said_read_lem
text_low t room number e = subst (λ n. n ≤ 18) (sym e) (text_cases (readable t) (ltb room (length (numbers t))))
