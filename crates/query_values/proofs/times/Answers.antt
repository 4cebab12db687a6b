-- The word says no number, one of the two is too great, or the product tells.
use Rattle.std.proofs.Common.{◌<◌, ◌≤◌, ◌*◌, ◌≡◌, ℕ, Err, MatchOption, Ok, Result}
use Rattle.std.specs.Prelude.{OkIff}
use Rattle.std.specs.Result.{result_ok}
use Rattle.query_values.proofs.Putting.{times-factor, times-number, times-product, times-small}
use Rattle.query_values.proofs.times.Goals as goal
use Rattle.query_values.specs.Values.{times_of}
use mathlib.Core.Path.{◌∙◌, sym}
use native.Mathlib.Omega.{arith}

-- a product of two that fit, and whether it fits
fitted : {E : Type 0} (r : Result ℕ E) (said factor : ℕ) → said ≤ 65535 → factor ≤ 65535 → OkIff r (said * factor < 65536) (said * factor)
    → MatchOption (result_ok r) (65536 ≡ times_of said factor) (λ value. (value ≡ times_of said factor) × (value ≤ 65535))
fitted (Ok x) said factor a b h = (h.1 ∙ times-small said factor a b (omega (arith, h.0)), omega (arith, h))
fitted (Err e) said factor a b h = times-product said factor a b (omega (arith, h))

pub returns-in-Some : goal.returns-in-Some
returns-in-Some c =
    rw (c.ok.ensures.value, sym c.in-Some.ensures.0)
    (fitted _ _ _ c.if-said-le-MOST_VALUE.true c.if-factor-le-MOST_VALUE.true c.try_from.ensures)

pub returns-in_default : goal.returns-in_default
returns-in_default c = times-factor _ _ (omega (arith, c.in-Some.ensures)) (omega arith)

pub returns-in_default-2 : goal.returns-in_default-2
returns-in_default-2 c = times-number _ _ (omega (arith, c.in-Some.ensures))

pub returns-in_default-3 : goal.returns-in_default-3
returns-in_default-3 c = times-number _ _ (omega (arith, c.in_default.ensures))
