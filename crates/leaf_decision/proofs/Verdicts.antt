-- A verdict, by the arms that were passed. Assumes nothing.
use Rattle.leaf_decision.specs.declared.Verdict.TheVariants.{In, Measure, Out}
use Rattle.leaf_decision.specs.declared.Verdict.{Verdict}
use mathlib.Core.Path.{◌≡◌, refl}

-- the `else` of the `let`, where the `if let` failed too: it is `Out`
pub out_only : (v : Verdict) → (v ≡ Measure → ⊥) → (v ≡ In → ⊥) → v ≡ Out
out_only In p q = absurd (q refl)
out_only Out p q = refl
out_only Measure p q = absurd (p refl)
