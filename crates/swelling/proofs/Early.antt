-- The rows that a run has when it is split. Assumes nothing.
use Prim.Native.Nat.{◌<◌, suc, ℕ}
use Rattle.appending.proofs.Lowest.{orderly-length}
use Rattle.appending.specs.Append.{orderly}
use lib.ListN.{length, take}
use lib.Seq.{length-take-le}
use mathlib.Core.List.{List}
use mathlib.Core.Path.{◌∙◌, ◌≡◌}
use native.Mathlib.Omega.{arith}

-- one more than a leaf may have, in the order of their numbers
abbrev pub earliest : ℕ → List ℕ → List ℕ
earliest l run = orderly (take (suc l) run)

-- as many as it had when it was split
pub earliest_long : (l : ℕ) (run : List ℕ) → l < length run → length (earliest l run) ≡ suc l
earliest_long l run h =
    orderly-length (take (suc l) run) (omega (arith, length-take-le (suc l) run h)) ∙ length-take-le (suc l) run h
