-- 02, R-12: foremen's orders that decide the same of every row leave the same set, and every search on it finds the same. Assumes nothing.
use Prim.Native.Nat.{ℕ}
use Rattle.answers.specs.declared.Answer.{Answer}
use Rattle.audit.specs.Calls.{Checks}
use Rattle.bourascul.proofs.Demands.{serves-own}
use Rattle.bourascul.proofs.Promises.{answers-only}
use Rattle.bourascul.specs.Recorded.{Recorded}
use Rattle.nearest.proofs.Promises.{nearest-only}
use Rattle.nearest.specs.Calls.{Answered}
use Rattle.nearest_steps.specs.Asked.{NearestLent, asks}
use Rattle.orders.proofs.Calls.{calls_alike}
use Rattle.orders.specs.Orders.{Alike, Carried, Order}
use Rattle.radius.proofs.Promises.{radius-only}
use Rattle.radius.specs.Calls.{Searched}
use mathlib.Core.List.{List}
use mathlib.Core.Path.{◌≡◌, subst, sym}

-- orders carried out by calls of strike and restore, in two ways that are alike: twice and once, in another order, mixed from two offices
-- (rowset/proofs/Alike says which are)
module _ {n : ℕ} {s a b : List ℕ} {os ps : List Order} (alike : Alike os ps) (x : Carried n s os a) (y : Carried n s ps b) where
  -- THE SET OF BITS IS THE SAME EITHER WAY
  pub same_set : a ≡ b
  same_set = calls_alike alike x y

  -- A RADIUS SEARCH GIVES THE SAME EITHER WAY: the number, the counts and every how-byte, on any index
  pub same-radius : {t : List ℕ} {c : ℕ} {w q : List ℕ} {r : ℕ} {before after after₂ : List ℕ} {number in# met number₂ in₂ met₂ : ℕ}
      → Searched t c w q r a before after number in# met → Searched t c w q r b before after₂ number₂ in₂ met₂
      → (number ≡ number₂) × ((in# ≡ in₂) × (met ≡ met₂) × (after ≡ after₂))
  same-radius {t} {c} {w} {q} {r} {before} {after₂ = after₂} {number₂ = number₂} {in₂} {met₂} u v =
      radius-only u (subst (λ (set : List ℕ). Searched t c w q r set before after₂ number₂ in₂ met₂) (sym same_set) v)

  -- an index of which a check gave 0
  module _ {t : List ℕ} {c : ℕ} {w work₀ work₁ : List ℕ} {place second : ℕ} (ok : Checks t c w work₀ work₁ 0 place second) where
    -- A NEAREST SEARCH GIVES THE SAME EITHER WAY: the number, the counts and all that is lent
    pub same-nearest : {q : List ℕ} {wanted room : ℕ} {lent lent₁ lent₂ : NearestLent} {number given met number₂ given₂ met₂ : ℕ}
        → Answered (asks t c w q wanted a) room lent lent₁ number given met → Answered (asks t c w q wanted b) room lent lent₂ number₂ given₂ met₂
        → (number ≡ number₂) × ((given ≡ given₂) × (met ≡ met₂) × (lent₁ ≡ lent₂))
    same-nearest {q} {wanted} {room} {lent} {lent₂ = lent₂} {number₂ = number₂} {given₂} {met₂} u v =
        nearest-only u (subst (λ (set : List ℕ). Answered (asks t c w q wanted set) room lent lent₂ number₂ given₂ met₂) (sym same_set) v) t (serves-own ok u)

    -- AND SO DOES ONE WITH RECORDS
    pub same-answers : {q : List ℕ} {wanted : ℕ} {as₀ as₁ as₂ : List Answer} {lent lent₁ lent₂ : NearestLent} {number given met number₂ given₂ met₂ : ℕ}
        → Recorded (asks t c w q wanted a) as₀ as₁ lent lent₁ number given met → Recorded (asks t c w q wanted b) as₀ as₂ lent lent₂ number₂ given₂ met₂
        → (number ≡ number₂) × ((given ≡ given₂) × (met ≡ met₂) × (lent₁ ≡ lent₂)) × (as₁ ≡ as₂)
    same-answers {q} {wanted} {as₀} {as₂ = as₂} {lent} {lent₂ = lent₂} {number₂ = number₂} {given₂} {met₂} u v =
        answers-only u (subst (λ (set : List ℕ). Recorded (asks t c w q wanted set) as₀ as₂ lent lent₂ number₂ given₂ met₂) (sym same_set) v) t
        (serves-own ok u.plain)
