-- The numbers that leave the workspace as it is. Assumes nothing.
use Prim.Native.Nat.{ℕ}
use Rattle.audit_refusals.specs.Workspace.{clears}
use Rattle.limits.specs.Limits.{within}
use borrow.Author.Tests.{ne_eqb}
use mathlib.Core.Bool.{false}
use mathlib.Core.Path.{◌≡◌, refl}

-- 19 leaves it
nineteen_keeps : clears 19 ≡ false
nineteen_keeps = refl

-- the numbers of the refusals leave it
pub early_keeps : (r : ℕ) → (r ≡ 0 → ⊥) → within 10 13 r ≡ false → clears r ≡ false
early_keeps r h q = rw (ne_eqb r 0 h, q)
