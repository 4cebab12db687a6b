-- What the set of circles says, and that no second outcome fits. Assumes nothing.
use Prim.Native.Nat.{◌<◌, ◌≤◌, ℕ}
use Rattle.circle_columns.specs.Circles.{Bits, Circled, is_said_lem}
use Rattle.limits.specs.Limits.{circles_ok_lem}
use Rattle.measure.specs.Distance.{is_circle_lem}
use Rattle.rowset.proofs.Digits.{digit, low_word, same_digits}
use borrow.Author.Tests.{eqb-false, eqb-true, le-ltb, lt-ltb}
use lib.Dec.{eqb}
use lib.ListN.{get_or}
use mathlib.Core.Bool.{Bool, false, true}
use mathlib.Core.List.{List}
use mathlib.Core.Path.{◌∙◌, ◌≡◌, refl, sym}
use native.Mathlib.Decide.{ℕ_discrete}
use native.Mathlib.Nat.{div-eq_of_lt}
use native.Mathlib.Omega.{arith}

-- a digit is 1 or 0
no_digit : (w i : ℕ) → eqb (digit w i) 1 ≡ false → digit w i ≡ 0
no_digit w i e = let n = eqb-false (digit w i) 1 e in omega (arith, n)

module _ {names : List ℕ} {c : ℕ} {list chosen : List ℕ} {k : ℕ} where
  -- a set of 32 bits has none at or above the chosen columns: a build takes it
  pub circles-fit : {set : ℕ} → Bits names c list chosen k set → set < 4_294_967_296 → k ≤ 16 → circles_ok_lem k set ≡ true
  circles-fit {set} b s h =
      let low = low_word set k s (omega arith) (λ i l m. no_digit set i (b.each i ∙ rw (le-ltb i k l) refl)) in
      rw (div-eq_of_lt low) refl

  -- A PLACE IS A CIRCLE EXACTLY IF AN ITEM SAYS ITS COLUMN
  pub circle-said : {set : ℕ} → Bits names c list chosen k set → (j : ℕ) → j < k → is_circle_lem set j ≡ is_said_lem names c list (get_or chosen j 0)
  circle-said b j h = b.each j ∙ rw (lt-ltb j k h) refl

  -- NO SECOND OUTCOME FITS
  pub circles-only : {w₁ w₂ s₁ s₂ e₁ e₂ o₁ o₂ : ℕ} → Circled names c list chosen k w₁ s₁ e₁ o₁ → Circled names c list chosen k w₂ s₂ e₂ o₂
      → o₁ < 4_294_967_296 → o₂ < 4_294_967_296 → (w₁ ≡ w₂) × (s₁ ≡ s₂) × (e₁ ≡ e₂) × (o₁ ≡ o₂)
  circles-only {w₁} {w₂} {s₁} {s₂} {e₁} {e₂} {o₁} {o₂} a b h g = let e = a.said ∙ sym b.said in go e (ℕ_discrete w₁ 0)
    where
      go : w₁ ≡ w₂ → Dec (w₁ ≡ 0) → (w₁ ≡ w₂) × (s₁ ≡ s₂) × (e₁ ≡ e₂) × (o₁ ≡ o₂)
      go e (yes z) =
          let x = a.nowhere z in
          let y = b.nowhere (sym e ∙ z) in (
            e,
            x.0 ∙ sym y.0,
            x.1 ∙ sym y.1,
            same_digits 32 o₁ o₂ h g (λ i l. alike (digit o₁ i) (digit o₂ i) (omega arith) (omega arith) ((a.bits z).each i ∙ sym ((b.bits (sym e ∙ z)).each i))),
          )
        where
          alike : (x y : ℕ) → x < 2 → y < 2 → eqb x 1 ≡ eqb y 1 → x ≡ y
          alike x y p q e = two (eqb x 1) refl (sym e)
            where
              two : (b : Bool) → eqb x 1 ≡ b → eqb y 1 ≡ eqb x 1 → x ≡ y
              two true u v = omega (arith, eqb-true x 1 u, eqb-true y 1 (v ∙ u))
              two false u v = let m = eqb-false x 1 u in let n = eqb-false y 1 (v ∙ u) in omega (arith, m, n)
      go e (no z) =
          let x = a.spot z in
          let y = b.spot (λ q. z (e ∙ q)) in
          let s = x.0 ∙ sym y.0 in
          (e, s, x.1 ∙ rw s (sym y.1), x.2 ∙ sym y.2)
