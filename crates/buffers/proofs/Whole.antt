-- A buffer wiped whole. Assumes nothing.
use Prim.Native.Nat.{ℕ}
use Rattle.buffers.specs.Wiped.{wiped}
use lib.ListN.{drop_of_length-le, length, replicate}
use mathlib.Core.List.{List, ◌++◌, append-nil}
use mathlib.Core.Path.{◌∙◌, ◌≡◌, ap}
use native.Mathlib.Omega.{arith}

-- a list that is wiped as far as it goes is all zeros
pub wiped-whole : (l : List ℕ) → wiped (length l) l ≡ replicate (length l) 0
wiped-whole l =
    ap (λ (x : List ℕ). replicate (length l) 0 ++ x) (drop_of_length-le l {i = length l} (omega arith)) ∙ append-nil (replicate (length l) 0)
