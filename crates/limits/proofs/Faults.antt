-- The laws on lists of faults: of two lists, one after the other, the first that has a fault says it. Assumes nothing.
use Prim.Native.Nat.{◌≤◌, ℕ}
use Rattle.laws.proofs.Every.{every_of}
use Rattle.laws.specs.Every.{Every}
use Rattle.limits.specs.Limits.{within}
use Rattle.limits.specs.Said.{Said, fault, said}
use mathlib.Core.Bool.{Bool, false, true}
use mathlib.Core.List.{List, [], ◌++◌, ◌∷◌}
use mathlib.Core.Path.{◌≡◌, ap, refl, sym}
use native.Mathlib.Omega.{arith}

-- what is said, without its places
abbrev pub number_of : Said → ℕ
number_of s = s.0

-- no fault has the number 0, which means none
abbrev pub Numbered : List Said → Type 0
Numbered fs = Every (λ f. 1 ≤ f.0) fs

-- a list of faults that says 0 is empty
pub none-listed : (fs : List Said) → Numbered fs → (said fs).0 ≡ 0 → fs ≡ []
none-listed [] k z = refl
none-listed (f ∷ fs) k z = absurd (omega (arith, k.0))

-- ---- of two lists, one after the other
-- what the first list says, if it says something
pub says_first : (fs gs : List Said) → ((said fs).0 ≡ 0 → ⊥) → said fs ≡ said (fs ++ gs)
says_first [] gs h = absurd (h refl)
says_first (f ∷ fs) gs h = refl

-- else what the second says
pub says-next : (fs gs : List Said) → Numbered fs → (said fs).0 ≡ 0 → said gs ≡ said (fs ++ gs)
says-next fs gs k z = ap (λ l. said (l ++ gs)) (sym (none-listed fs k z))

-- where the two together say nothing, neither does
pub says_none : (fs gs : List Said) → Numbered fs → (said (fs ++ gs)).0 ≡ 0 → ((said fs).0 ≡ 0) × ((said gs).0 ≡ 0)
says_none [] gs k z = (refl, z)
says_none (f ∷ fs) gs k z = absurd (omega (arith, k.0))

-- ---- one fault and the list after it
-- the fault is said where its test passes
pub fault-first : (k : ℕ) (gs : List Said) {b : Bool} → b ≡ true → (k, 0, 0) ≡ said (fault k b ++ gs)
fault-first k gs e = rw e

-- and else what the list says
pub fault-next : (k : ℕ) (gs : List Said) {b : Bool} → b ≡ false → said gs ≡ said (fault k b ++ gs)
fault-next k gs e = rw e

-- where nothing is said the test failed, and the list says nothing
pub fault-none : (k : ℕ) (b : Bool) (gs : List Said) → 1 ≤ k → (said (fault k b ++ gs)).0 ≡ 0 → (b ≡ false) × ((said gs).0 ≡ 0)
fault-none k true gs h z = absurd (omega arith)
fault-none k false gs h z = (refl, z)

-- a fault alone: it is numbered
pub fault-numbered : (k : ℕ) (b : Bool) → 1 ≤ k → Numbered (fault k b)
fault-numbered k true h = (h, tt)
fault-numbered k false h = tt

-- and where it says nothing its test failed
pub fault-not : (k : ℕ) (b : Bool) → 1 ≤ k → (said (fault k b)).0 ≡ 0 → b ≡ false
fault-not k true h z = absurd (omega arith)
fault-not k false h z = refl

-- ---- what refuses a call before its work
-- its number is none of 10 to 13, which say what a full check found, and it names no place
pub record Early (s : Said) : Type 0 where
  pub some : 1 ≤ s.0
  pub unfound : within 10 13 s.0 ≡ false
  pub placeless : (s.1 ≡ 0) × (s.2 ≡ 0)

-- a fault with such a number
pub fault_early : (k : ℕ) (b : Bool) → 1 ≤ k → within 10 13 k ≡ false → Every Early (fault k b)
fault_early k true h q = (record { some = h; unfound = q; placeless = (refl, refl) }, tt)
fault_early k false h q = tt

-- none of them has the number 0
pub early_numbered : (fs : List Said) → Every Early fs → Numbered fs
early_numbered fs h = every_of Early (λ f. 1 ≤ f.0) (λ f e. e.some) fs h

-- what they say is none of these
pub early_unfound : (fs : List Said) → Every Early fs → within 10 13 (said fs).0 ≡ false
early_unfound [] h = refl
early_unfound (f ∷ fs) h = h.0.unfound

-- and has no place
pub early_placeless : (fs : List Said) → Every Early fs → ((said fs).1 ≡ 0) × ((said fs).2 ≡ 0)
early_placeless [] h = (refl, refl)
early_placeless (f ∷ fs) h = h.0.placeless
