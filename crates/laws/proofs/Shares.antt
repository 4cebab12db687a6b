-- Numbers shared out among lists: each goes to one, so that all have what there was. Assumes nothing.
use Prim.Native.Nat.{◌+◌, ◌≤◌, ℕ}
use Rattle.laws.proofs.Every.{every_of}
use Rattle.laws.specs.Every.{Every}
use Rattle.laws.proofs.Lists.{tally_append}
use Rattle.laws.specs.Lists.{each, head, joined, keep, rest, tally, times, without}
use borrow.Author.Tests.{eqb-true}
use lib.Dec.{eqb}
use lib.ListN.{length}
use mathlib.Core.Bool.{Bool, cond, false, true}
use mathlib.Core.List.{List, [], ◌∷◌, map}
use mathlib.Core.Path.{◌∙◌, ◌≡◌, ap, ap₂, refl, sym}
use native.Mathlib.Nat.{not-suc-le-zero}
use native.Mathlib.Omega.{arith}

-- 1 for a test that passes, else 0
abbrev pub bit : Bool → ℕ
bit b = cond b 1 0

-- removing an element that is there
pub without_tally : (f : ℕ → Bool) (i : ℕ) (xs : List ℕ) → 1 ≤ times i xs → tally f xs ≡ bit (f i) + tally f (without i xs)
without_tally f i [] h = absurd (not-suc-le-zero h)
without_tally f i (x ∷ xs) h = go (λ q. without_tally f i xs q) (eqb i x) refl h
  where
    go : (1 ≤ times i xs → tally f xs ≡ bit (f i) + tally f (without i xs)) → (b : Bool) → eqb i x ≡ b → 1 ≤ bit b + times i xs
        → bit (f x) + tally f xs ≡ bit (f i) + tally f (cond b xs (x ∷ without i xs))
    go ih true e h = ap (λ k. bit (f k) + tally f xs) (sym (eqb-true i x e))
    go ih false e h = omega (arith, ih (omega arith))

-- sharing rows out by a key, each key being once among the keys
share_cons : (f : ℕ → Bool) (κ : ℕ → ℕ) (i : ℕ) (is cs : List ℕ)
    → tally f (each (λ a. keep (λ j. eqb (κ j) a) (i ∷ is)) cs) ≡ cond (f i) (times (κ i) cs) 0 + tally f (each (λ a. keep (λ j. eqb (κ j) a) is) cs)
share_cons f κ i is [] = go (f i)
  where
    go : (b : Bool) → 0 ≡ cond b 0 0 + 0
    go true = omega arith
    go false = omega arith
share_cons f κ i is (c ∷ cs) =
    let A : List ℕ = keep (λ j. eqb (κ j) c) is in
    let B : List ℕ = each (λ a. keep (λ j. eqb (κ j) a) (i ∷ is)) cs in
    let B' : List ℕ = each (λ a. keep (λ j. eqb (κ j) a) is) cs in
    tally_append f (cond (eqb (κ i) c) (i ∷ A) A) B
    ∙ go (eqb (κ i) c) (f i) refl A (tally f B) (tally f B') (share_cons f κ i is cs)
    ∙ ap (λ n. cond (f i) (bit (eqb (κ i) c) + times (κ i) cs) 0 + n) (sym (tally_append f A B'))
  where
    go : (s b : Bool) → f i ≡ b → (A : List ℕ) (n n' : ℕ) → n ≡ cond (f i) (times (κ i) cs) 0 + n'
        → tally f (cond s (i ∷ A) A) + n ≡ cond (f i) (bit s + times (κ i) cs) 0 + (tally f A + n')
    go true true e A n n' h = rw e (omega (arith, rw e at h))
    go true false e A n n' h = rw e (omega (arith, rw e at h))
    go false true e A n n' h = rw e (omega (arith, rw e at h))
    go false false e A n n' h = rw e (omega (arith, rw e at h))

-- WHAT IS SHARED OUT BY A KEY IS WHAT THERE WAS, where each key is once among the keys
pub share : (f : ℕ → Bool) (κ : ℕ → ℕ) (is cs : List ℕ) → ((i : ℕ) → times (κ i) cs ≡ 1)
    → tally f (each (λ a. keep (λ j. eqb (κ j) a) is) cs) ≡ tally f is
share f κ [] cs h = none cs
  where
    none : (cs : List ℕ) → tally f (each (λ a. keep (λ j. eqb (κ j) a) []) cs) ≡ 0
    none [] = refl
    none (c ∷ cs) = none cs
share f κ (i ∷ is) cs h = share_cons f κ i is cs ∙ ap₂ (λ a b. cond (f i) a 0 + b) (h i) (share f κ is cs h)

-- the head and the rest make the list
pub tally_split : (f : ℕ → Bool) (xs : List ℕ) → 1 ≤ length xs → tally f (head xs ∷ []) + tally f (rest xs) ≡ tally f xs
tally_split f [] h = absurd (not-suc-le-zero h)
tally_split f (x ∷ xs) h = omega arith

-- lists with heads: the heads, and the lists without them
pub heads_tally : (f : ℕ → Bool) (K : ℕ → List ℕ) (cs : List ℕ) → tally f (joined (map (λ a. a ∷ K a) cs)) ≡ tally f cs + tally f (each K cs)
heads_tally f K [] = refl
heads_tally f K (c ∷ cs) =
    omega (arith, heads_tally f K cs, tally_append f (c ∷ K c) (joined (map (λ a. a ∷ K a) cs)), tally_append f (K c) (each K cs))

-- no part has a number more often than all parts together
pub part_times : (i : ℕ) (gs : List (List ℕ)) → Every (λ r. times i r ≤ times i (joined gs)) gs
part_times i [] = tt
part_times i (r ∷ gs) = (
  omega (arith, tally_append (eqb i) r (joined gs)),
  every_of (λ q. times i q ≤ times i (joined gs)) (λ q. times i q ≤ times i (joined (r ∷ gs)))
      (λ q h. omega (arith, tally_append (eqb i) r (joined gs))) gs (part_times i gs),
)

-- facts of every part for each i are, of every part, a fact for each i
pub every_∀ : (P : List ℕ → ℕ → Type 0) (gs : List (List ℕ)) → ((i : ℕ) → Every (λ r. P r i) gs) → Every (λ r. (i : ℕ) → P r i) gs
every_∀ P [] f = tt
every_∀ P (r ∷ gs) f = ((λ i. (f i).0), every_∀ P gs (λ i. (f i).1))
