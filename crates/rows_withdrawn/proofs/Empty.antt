-- A set in which no row is: its words are zeros, and no word of it need be asked. Assumes nothing.
use Prim.Native.Nat.{◌+◌, ◌/◌, ◌<◌, ◌≤◌, suc, zero, ℕ}
use Rattle.rowset.specs.Sets.{SameRows, bit_of}
use borrow.Author.Tests.{eqb-false, eqb-true}
use lib.Dec.{T, eqb}
use lib.ListN.{get_or, length}
use mathlib.Core.Bool.{Bool, ◌||◌, false, not, true}
use mathlib.Core.List.{List, [], ◌∷◌}
use mathlib.Core.Path.{◌∙◌, ◌≡◌, ap, refl, subst}
use native.Mathlib.Omega.{arith}

-- so far every word is zero, and this one is
pub off_next : (s : List ℕ) (i : ℕ) (on : Bool) → (on ≡ false → (k : ℕ) → k < i → get_or s k 0 ≡ 0) → (on || not (eqb (get_or s i 0) 0)) ≡ false
    → (k : ℕ) → k < i + 1 → get_or s k 0 ≡ 0
off_next s i on h e k l = by-test on (eqb (get_or s i 0) 0) refl refl e
  where
    last : eqb (get_or s i 0) 0 ≡ true → (k < i → get_or s k 0 ≡ 0) → get_or s k 0 ≡ 0
    last z f = below (eqb k i) refl
      where
        below : (b : Bool) → eqb k i ≡ b → get_or s k 0 ≡ 0
        below true q = ap (λ (j : ℕ). get_or s j 0) (eqb-true k i q) ∙ eqb-true (get_or s i 0) 0 z
        below false q = f (omega (arith, eqb-false k i q))

    by-test : (b z : Bool) → on ≡ b → eqb (get_or s i 0) 0 ≡ z → (b || not z) ≡ false → get_or s k 0 ≡ 0
    by-test true z p q r = absurd (subst T r tt)
    by-test false true p q r = last q (h p k)
    by-test false false p q r = absurd (subst T r tt)

-- words beyond the set's are zero
pub off-beyond : (s : List ℕ) (i : ℕ) → length s ≤ i → ((k : ℕ) → k < i → get_or s k 0 ≡ 0) → (k : ℕ) → get_or s k 0 ≡ 0
off-beyond [] i l h k = refl
off-beyond (v ∷ s) i l h zero = h 0 (omega arith)
off-beyond (v ∷ s) zero l h (suc k) = absurd (omega arith)
off-beyond (v ∷ s) (suc i) l h (suc k) = off-beyond s i (omega arith) (λ k q. h (suc k) (omega arith)) k

-- no row is in a set of zeros, and none in a set of no words
pub none_in : (s : List ℕ) → ((k : ℕ) → get_or s k 0 ≡ 0) → SameRows [] s
unfolding bit_of
none_in s h i = rw (h (i / 32)) refl
