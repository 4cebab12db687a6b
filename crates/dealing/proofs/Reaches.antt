-- How far a node reaches that takes rows: by their greatest and their least distance. Assumes nothing.
use Prim.Native.Nat.{◌≤◌, max, min, suc, zero, ℕ}
use Rattle.appending.specs.Append.{reach_with}
use Rattle.dealing.specs.Marked.{Reaching}
use Rattle.laws.specs.Lists.{greatest, least, lower, lowest}
use Rattle.swelling.specs.Swell.{reach_taking}
use Rattle.tree.specs.Grove.{Reach, reach#}
use Rattle.words.specs.Words.{count#, inner#, radius#}
use borrow.Author.Tests.{lt-leb, ne_eqb}
use lib.Dec.{eqb, leb}
use mathlib.Core.Bool.{Bool, cond}
use mathlib.Core.List.{List, [], ◌∷◌}
use mathlib.Core.Path.{◌∙◌, ◌≡◌, ap, refl, sym}
use native.Mathlib.Omega.{arith}

-- the radius grows to the greatest
taking_outer : (k : ℕ) (R : Reach) (vs : List ℕ) → (reach_taking k R vs).outer ≡ max R.outer (greatest vs)
taking_outer k R [] = omega arith
taking_outer k R (v ∷ vs) = taking_outer (suc k) (reach_with k R v) vs ∙ omega arith

-- of two numbers and some others the least, either way
least_swap : (a b : ℕ) (xs : List ℕ) → min a (least b xs) ≡ min b (least a xs)
least_swap a b [] = omega arith
least_swap a b (x ∷ xs) = omega (arith, least_swap a b xs)

-- one more among them
least_more : (a v : ℕ) (xs : List ℕ) → least (min a v) xs ≡ min v (least a xs)
least_more a v [] = omega arith
least_more a v (x ∷ xs) = omega (arith, least_more a v xs)

-- the inner reach of two rows or more shrinks to the least
taking_inner : (k : ℕ) (R : Reach) (vs : List ℕ) → 2 ≤ k → (reach_taking k R vs).inner ≡ least R.inner vs
taking_inner k R [] h = refl
taking_inner k R (v ∷ vs) h =
    taking_inner (suc k) (reach_with k R v) vs (omega arith)
    ∙ ap (λ (b : Bool). least (cond b v (min R.inner v)) vs) (ne_eqb k 1 (λ e. omega arith)) ∙ least_more R.inner v vs

-- of one row or more, where it takes one
taking_near : (k : ℕ) (R : Reach) (v : ℕ) (vs : List ℕ) → 1 ≤ k → (reach_taking k R (v ∷ vs)).inner ≡ lower k R.inner (lowest (v ∷ vs))
taking_near zero R v vs h = absurd (omega arith)
taking_near (suc zero) R v vs h = taking_inner 2 (reach_with 1 R v) vs (omega arith)
taking_near (suc (suc k)) R v vs h =
    taking_inner (suc (suc k)) R (v ∷ vs) (omega arith) ∙ least_swap v R.inner vs
    ∙ ap (λ (b : Bool). cond b (least v vs) (min R.inner (least v vs))) (sym (lt-leb (suc (suc k)) 1 (omega arith)))

-- it takes none
pub reach_none : (w : List ℕ) (q : ℕ) {count far near radius inner : ℕ} → radius ≡ radius# w q → inner ≡ inner# w q → count ≡ 0
    → Reaching w q count far near radius inner
reach_none w q er ei ec [] e f g = (er, ei)
reach_none w q er ei ec (v ∷ vs) e f g = absurd (omega arith)

-- it takes some
pub reach_some : (w : List ℕ) (q : ℕ) {count far near low high own radius inner : ℕ} → high ≡ radius# w q → low ≡ inner# w q → (count ≡ 0 → ⊥)
    → own ≡ count# w q → 1 ≤ count# w q → radius ≡ max high far → inner ≡ lower own low near → Reaching w q count far near radius inner
reach_some w q er ei some eo h em en [] e f g = absurd (some e)
reach_some w q {far = far} {near = near} {low = low} {high = high} {own = own} er ei some eo h em en (v ∷ vs) e f g = (
  em ∙ ap (λ (x : ℕ). max x far) er ∙ ap (max (radius# w q)) f ∙ sym (taking_outer (count# w q) (reach# w q) (v ∷ vs)),
  en ∙ ap (λ (x : ℕ). lower x low near) eo ∙ ap (λ (x : ℕ). lower (count# w q) x near) ei ∙ ap (lower (count# w q) (inner# w q)) g
      ∙ sym (taking_near (count# w q) (reach# w q) v vs h),
)
