-- What the code stores for a row of an opened leaf is its mark. Assumes nothing.
use Prim.Native.Nat.{◌+◌, ℕ}
use Rattle.laws.specs.Lists.{gap}
use Rattle.leaf_decision.specs.Decision.{decision, leaf_at, leaf_mark, verdict_byte}
use Rattle.leaf_decision.specs.declared.Verdict.TheVariants.{In, Measure, Out}
use Rattle.leaf_decision.specs.declared.Verdict.{Verdict}
use Rattle.tree.specs.Radius.{by_distance, in_leaf_lem}
use Rattle.words.specs.Words.{dist#, row#}
use lib.Dec.{leb, ltb}
use mathlib.Core.Bool.{Bool, cond, false, true}
use mathlib.Core.List.{List, [], ◌∷◌}
use mathlib.Core.Path.{◌≡◌, refl}

module _ (x : ℕ → ℕ) (r : ℕ) (w : List ℕ) where
  -- what a caller that took the verdict v apart did is right
  pub leaf-did : (v' : Verdict) (xf p : ℕ) {i s : ℕ} {v : Verdict} → i ≡ row# w p → s ≡ dist# w p → v ≡ decision xf s r → v ≡ v'
      → (i, verdict_byte (by_distance x r i) v') ∷ [] ≡ leaf_at x r w xf p
  unfolding leaf_mark
  leaf-did v' xf p a b c e = cc

  -- THE LEAF DECISION'S BYTE IS THE MARK OF THE DEFINITION
  pub leaf-mark : (f p : ℕ) → leaf_mark x r w (x f) p ≡ in_leaf_lem x r f (row# w p, dist# w p)
  unfolding leaf_mark decision
  leaf-mark f p = go (ltb r (gap (x f) (dist# w p))) (leb (x f + dist# w p) r)
    where
      go : (a b : Bool) → verdict_byte (by_distance x r (row# w p)) (cond a Out (cond b In Measure)) ≡ cond a 0 (cond b 2 (by_distance x r (row# w p)))
      go true b = refl
      go false true = refl
      go false false = refl
