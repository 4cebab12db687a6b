-- Half the way to another centre is safe. Assumes nothing.
use Prim.Native.Nat.{◌+◌, ◌/◌, ◌<◌, ◌≤◌, min, ℕ}
use Rattle.measure.specs.Space.{Space}
use Rattle.spared_rows.specs.Safe.{Safe, SafeTo}
use lib.ListN.{get_or}
use mathlib.Core.List.{List}
use mathlib.Core.Logic.{⊎_elim}
use mathlib.Core.Path.{◌≡◌, ap, subst⁻¹}
use native.Mathlib.Nat.{eq-or-lt_of_le}
use native.Mathlib.Omega.{arith}

module _ (d : ℕ → ℕ → ℕ) where
  -- A ROW NO FARTHER FROM g THAN HALF THE WAY TO f IS NOT CLOSER TO f
  pub half-safe : Space d → (g f h : ℕ) → h ≡ d g f / 2 → Safe d g f h
  half-safe S g f h e r q = omega (arith, q, e, S.triangle g r f, S.swap r f)

  -- no row is closer to g than to g
  pub own-safe : (g f h : ℕ) → f ≡ g → Safe d g f h
  own-safe g f h e r q = omega (arith, ap (λ (k : ℕ). d k r) e)

  -- within 0 there are rows at 0 alone
  pub zero-safe : (fs : List ℕ) (g m : ℕ) → SafeTo d fs g m 0
  zero-safe fs g m i h r q = omega (arith, q)

  -- one row more, with the lesser of the two
  pub safe-more : (fs : List ℕ) (g k x y : ℕ) → SafeTo d fs g k x → Safe d g (get_or fs k 0) y → SafeTo d fs g (k + 1) (min x y)
  safe-more fs g k x y S s i h r q =
      ⊎_elim (λ (e : i ≡ k). subst⁻¹ (λ (j : ℕ). d g r ≤ d (get_or fs j 0) r) e (s r (omega (arith, q)))) (λ (l : i < k). S i l r (omega (arith, q)))
      (eq-or-lt_of_le (omega arith))
