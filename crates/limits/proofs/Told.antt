-- The constructor's answer, read back: what each case says of m, l, the circles and the edition, and that no second answer fits. Assumes nothing.
use Rattle.std.specs.Prelude.{Option, Some, None}
use Prim.Native.Nat.{ℕ}
use Rattle.limits.specs.Chosen.{Choice, choice_ok, chosen, told}
use Rattle.limits.specs.declared.Params.{Params}
use mathlib.Core.Bool.{Bool, cond, false, true}
use mathlib.Core.Path.{◌∙◌, ◌≡◌, ap, ap₂, refl}
use native.Mathlib.Omega.{arith}

-- taken: m, l and the circles are in range and are what the parameters hold, and the edition is 2
pub taken_is : (p : Params) (c m l o e : ℕ) → told (Some p) ≡ chosen c m l o e
    → (choice_ok c m l o e ≡ true) × (p.centres ≡ m) × (p.leaf ≡ l) × (p.circles ≡ o)
taken_is p c m l o e h = go (choice_ok c m l o e) h
  where
    go : (b : Bool) → ◌≡◌ {A = Choice} (0, p.centres, p.leaf, p.circles) (cond b (0, m, l, o) (2, 0, 0, 0))
        → (b ≡ true) × (p.centres ≡ m) × (p.leaf ≡ l) × (p.circles ≡ o)
    go true q = (refl, ap (λ (t : Choice). t.1) q, ap (λ (t : Choice). t.2) q, ap (λ (t : Choice). t.3) q)
    go false q = absurd (omega (arith, ap (λ (t : Choice). t.0) q))

-- refused: m, l or the circles are out of range, or the edition is another
pub refused_is : (c m l o e : ℕ) → told None ≡ chosen c m l o e → choice_ok c m l o e ≡ false
refused_is c m l o e h = go (choice_ok c m l o e) h
  where
    go : (b : Bool) → ◌≡◌ {A = Choice} (2, 0, 0, 0) (cond b (0, m, l, o) (2, 0, 0, 0)) → b ≡ false
    go true q = absurd (omega (arith, ap (λ (t : Choice). t.0) q))
    go false q = refl

-- NO SECOND ANSWER FITS
pub chosen-only : (r s : Option Params) → told r ≡ told s → r ≡ s
chosen-only (Some p) (Some q) e =
    ap Some (same p q (ap (λ (t : Choice). t.1) e) (ap (λ (t : Choice). t.2) e) (ap (λ (t : Choice). t.3) e))
  where
    same : (p q : Params) → p.centres ≡ q.centres → p.leaf ≡ q.leaf → p.circles ≡ q.circles → p ≡ q
    same p q a b d =
        ap₂ {C = Params} (λ m l. record { centres = m; leaf = l; circles = p.circles }) a b
        ∙ ap {B = Params} (λ o. record { centres = q.centres; leaf = q.leaf; circles = o }) d
chosen-only (Some p) None e = absurd (omega (arith, ap (λ (t : Choice). t.0) e))
chosen-only None (Some q) e = absurd (omega (arith, ap (λ (t : Choice). t.0) e))
chosen-only None None e = refl
