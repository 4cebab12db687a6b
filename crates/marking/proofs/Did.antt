-- What the code stores for a centre is its mark. Assumes nothing.
use Prim.Native.Nat.{ℕ}
use Rattle.marking.specs.Marks.{centre_at}
use Rattle.tree.specs.Radius.{by_distance}
use Rattle.words.specs.Words.{first#}
use mathlib.Core.List.{List, [], ◌∷◌}
use mathlib.Core.Path.{◌≡◌, ap}

module _ (x : ℕ → ℕ) (r : ℕ) (w : List ℕ) where
  -- a centre that was measured
  pub centre-did : (k : ℕ) {i : ℕ} → i ≡ first# w k → (i, by_distance x r i) ∷ [] ≡ centre_at x r w k
  centre-did k e = ap (λ (i : ℕ). (i, by_distance x r i) ∷ []) e
