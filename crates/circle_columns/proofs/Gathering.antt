-- The set of circles, gathered place by place. Assumes nothing.
use Prim.Native.Nat.{◌%◌, ◌*◌, ◌+◌, ◌-◌, ◌<◌, ◌^◌, ◌≤◌, suc, zero, ℕ}
use Rattle.circle_columns.proofs.Items.{one_more}
use Rattle.circle_columns.specs.Circles.{Bits, counts, is_said_lem, says}
use Rattle.laws.specs.Lists.{any, range}
use Rattle.measure.proofs.OnCircle.{off_next}
use Rattle.measure.specs.Distance.{is_circle_lem}
use Rattle.rowset.proofs.Digits.{digit, on_digit, one_shifted, zero_digit}
use borrow.Author.Tests.{eq-eqb, le-ltb, lt-ltb, ne_eqb}
use lib.Bits.{bit_or}
use lib.Dec.{eqb, ltb}
use Rattle.std.proofs.lemmas.List.Folds.{list_any_more}
use Rattle.std.specs.List.{list_any}
use lib.ListN.{get_or, length, take}
use native.Mathlib.Numerals.{add-one}
use mathlib.Core.Bool.{Bool, ◌&&◌, ◌||◌, and-false, cond, false, true}
use mathlib.Core.List.{List}
use mathlib.Core.Logic.{by_cases}
use mathlib.Core.Path.{◌∙◌, ◌≡◌, ap, refl, subst, sym}
use native.Mathlib.Decide.{dec_lt, ℕ_discrete}
use native.Mathlib.Omega.{arith}

-- a bit that is put on
pub bit_on : (set j : ℕ) {on : Bool} → on ≡ true → j < 32 → bit_or set (1 * 2 ^ j % 4_294_967_296) ≡ cond on (bit_or set (2 ^ j)) set
bit_on set j e h = ap (bit_or set) (one_shifted j h) ∙ sym (rw e refl)

-- and one that is not
pub bit_off : (set j : ℕ) {on : Bool} → on ≡ false → set ≡ cond on (bit_or set (2 ^ j)) set
bit_off set j e = sym (rw e refl)

-- ---- items and chosen columns, asked one after the other
pub said-next : (names : List ℕ) (c : ℕ) (list : List ℕ) (j i : ℕ) (found r : Bool) → found ≡ any (says names c list j) (range 0 i)
    → r ≡ says names c list j i → (found || r) ≡ any (says names c list j) (range 0 (i + 1))
said-next names c list j i found r f e = off_next (says names c list j) i found r f e

pub chosen_none : (chosen : List ℕ) (column : ℕ) → false ≡ counts chosen 0 column
unfolding counts
chosen_none chosen column = refl

pub chosen-next : (chosen : List ℕ) (column j : ℕ) (found : Bool) → found ≡ counts chosen j column → 1 ≤ column
    → (found || eqb (column - 1) (get_or chosen j 0)) ≡ counts chosen (j + 1) column
unfolding counts
chosen-next chosen column j found f h =
    off_next (λ i. eqb column (suc (get_or chosen i 0))) j found (eqb (column - 1) (get_or chosen j 0)) f (one_more column (get_or chosen j 0) h)

-- equal either way round
pub eqb_turn : (a b : ℕ) → eqb a b ≡ eqb b a
eqb_turn a b = go (ℕ_discrete a b)
  where
    go : Dec (a ≡ b) → eqb a b ≡ eqb b a
    go (yes e) = eq-eqb a b e ∙ sym (eq-eqb b a (sym e))
    go (no n) = ne_eqb a b n ∙ sym (ne_eqb b a (λ e. n (sym e)))

-- the first k are looked through
pub chosen-told : (chosen : List ℕ) (column : ℕ) → 1 ≤ column → (k : ℕ) → k ≤ length chosen
    → list_any (λ y. eqb y (column - 1)) (take k chosen) ≡ counts chosen k column
chosen-told chosen column h zero l = chosen_none chosen column
chosen-told chosen column h (suc k) l =
    rw add-one at
    (list_any_more (λ y. eqb y (column - 1)) chosen k 0 (omega arith)
    ∙ ap (λ (b : Bool). list_any (λ y. eqb y (column - 1)) (take k chosen) || b) (eqb_turn (get_or chosen k 0) (column - 1))
    ∙ chosen-next chosen column k _ (chosen-told chosen column h k (omega arith)) h)

-- ---- the set
-- whether a number other than j is below j, or below the next
below_next : (i j : ℕ) → (i ≡ j → ⊥) → ltb i j ≡ ltb i (j + 1)
below_next i j n =
    by_cases (dec_lt i j) (λ h. lt-ltb i j h ∙ sym (lt-ltb i (j + 1) (omega arith))) (λ h. le-ltb i j (omega arith) ∙ sym (le-ltb i (j + 1) (omega (arith, n))))

module _ (f : ℕ → Bool) where
  -- no place yet
  bits_none : (i : ℕ) → is_circle_lem 0 i ≡ (ltb i 0 && f i)
  bits_none i = rw (zero_digit i, le-ltb i 0 (omega arith)) refl

  -- one more place
  bits-next : (w v j : ℕ) {on : Bool} → ((i : ℕ) → is_circle_lem w i ≡ (ltb i j && f i)) → on ≡ f j → v ≡ cond on (bit_or w (2 ^ j)) w
      → (i : ℕ) → is_circle_lem v i ≡ (ltb i (j + 1) && f i)
  bits-next w v j {on} h e s i = ap (λ (x : ℕ). is_circle_lem x i) s ∙ go on e (ℕ_discrete i j)
    where
      go : (on : Bool) → on ≡ f j → Dec (i ≡ j) → is_circle_lem (cond on (bit_or w (2 ^ j)) w) i ≡ (ltb i (j + 1) && f i)
      go true e (yes q) =
          let d : digit (bit_or w (2 ^ j)) i ≡ 1 = on_digit w j i ∙ ap (λ (b : Bool). cond b 1 (digit w i)) (eq-eqb i j q) in
          let r : true ≡ (ltb i (j + 1) && f i) = rw (lt-ltb i (j + 1) (omega arith), ap f q ∙ sym e) refl in
          ap (λ (x : ℕ). eqb x 1) d ∙ r
      go true e (no q) =
          let d : digit (bit_or w (2 ^ j)) i ≡ digit w i = on_digit w j i ∙ ap (λ (b : Bool). cond b 1 (digit w i)) (ne_eqb i j q) in
          ap (λ (x : ℕ). eqb x 1) d ∙ h i ∙ ap (λ (b : Bool). b && f i) (below_next i j q)
      go false e (yes q) = h i ∙ rw (ap f q ∙ sym e) (and-false (ltb i j) ∙ sym (and-false (ltb i (j + 1))))
      go false e (no q) = h i ∙ ap (λ (b : Bool). b && f i) (below_next i j q)

module _ (names : List ℕ) (c : ℕ) (list chosen : List ℕ) where
  -- no place of the chosen columns yet
  pub set-none : Bits names c list chosen 0 0
  set-none = record { each = bits_none (λ j. is_said_lem names c list (get_or chosen j 0)) }

  -- one more
  pub set_next : {w v j : ℕ} {on : Bool} → Bits names c list chosen j w → on ≡ is_said_lem names c list (get_or chosen j 0) → v ≡ cond on (bit_or w (2 ^ j)) w
      → Bits names c list chosen (j + 1) v
  set_next {w} {v} {j} b e s = record { each = bits-next (λ i. is_said_lem names c list (get_or chosen i 0)) w v j b.each e s }

  -- all
  pub set_all : {w i k : ℕ} → Bits names c list chosen i w → i ≤ k → k ≤ i → Bits names c list chosen k w
  set_all {w} {i} {k} b h g = let e : i ≡ k = omega arith in subst (λ (x : ℕ). Bits names c list chosen x w) e b
