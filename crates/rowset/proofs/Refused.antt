-- Which sets are refused with 20, and how the last word alone tells it. Assumes nothing.
use Prim.Native.Nat.{◌%◌, ◌*◌, ◌+◌, ◌-◌, ◌/◌, ◌<◌, ◌≤◌, suc, zero, ℕ}
use Rattle.laws.proofs.First.{any-lost}
use Rattle.laws.proofs.Never.{never}
use Rattle.laws.proofs.Tests.{or_none, or_parts}
use Rattle.laws.specs.Lists.{any, range}
use Rattle.rowset.proofs.Digits.{digit, high_digit, low_word}
use Rattle.rowset.proofs.Rows.{Has, beyond, digit_row}
use Rattle.rowset.specs.Sets.{Narrow, bit_of, is_in_lem, mask, set_bad_lem, too_high, word_of, words_for_lem}
use borrow.Author.Tests.{eq-eqb, eqb-true, le-leb, lt-leb, ne_eqb, not-false}
use lib.Dec.{eqb, leb}
use lib.ListN.{get_or, length}
use mathlib.Core.Bool.{Bool, cond, false, not, true}
use mathlib.Core.List.{List}
use mathlib.Core.Path.{◌∙◌, ◌≡◌, ap, refl, subst, sym}
use native.Mathlib.Decide.{dec_lt, ℕ_discrete}
use native.Mathlib.Omega.{arith}

-- ---- a range in which no number passes
-- none does
none_of : (f : ℕ → Bool) (a k : ℕ) → any f (range a k) ≡ false → (i : ℕ) → a ≤ i → i < a + k → f i ≡ false
none_of f a zero e i l h = absurd (omega arith)
none_of f a (suc k) e i l h =
    let parts = or_parts (f a) (any f (range (suc a) k)) e in
    go parts.0 (none_of f (suc a) k parts.1 i) (ℕ_discrete i a)
  where
    go : f a ≡ false → (suc a ≤ i → i < suc a + k → f i ≡ false) → Dec (i ≡ a) → f i ≡ false
    go here later (yes q) = ap f q ∙ here
    go here later (no q) = later (omega arith) (omega arith)

-- and so the test of the range fails
all_fail : (f : ℕ → Bool) (a k : ℕ) → ((i : ℕ) → a ≤ i → i < a + k → f i ≡ false) → any f (range a k) ≡ false
all_fail f a k h = any-lost f a k (record { from = omega arith; to = omega arith; none = h; here = λ l. absurd (omega arith) })

module _ (s : List ℕ) (n : ℕ) where
  -- where no bit n or above is on, no row from n on is in
  none_above : too_high s n ≡ false → (i : ℕ) → n ≤ i → is_in_lem s i ≡ false
  none_above e i h = go (dec_lt (i / 32) (length s))
    where
      go : Dec (i / 32 < length s) → is_in_lem s i ≡ false
      go (yes l) = none_of (is_in_lem s) n (32 * length s - n) e i h (omega arith)
      go (no l) = beyond s i (omega arith)

  -- ---- A SET THAT IS NOT REFUSED HAS THE WORDS FOR n ROWS, AND NO ROW FROM n ON IS IN IT
  -- the words
  pub right-length : set_bad_lem s n ≡ false → length s ≡ words_for_lem n
  unfolding set_bad_lem
  right-length e = eqb-true (length s) (words_for_lem n) (not-false (eqb (length s) (words_for_lem n)) (or_parts (not (eqb (length s) (words_for_lem n))) (too_high s n) e).0)

  -- the rows
  pub right-above : set_bad_lem s n ≡ false → (i : ℕ) → n ≤ i → is_in_lem s i ≡ false
  unfolding set_bad_lem
  right-above e = none_above (or_parts (not (eqb (length s) (words_for_lem n))) (too_high s n) e).1

  -- and a set of which both are true is not refused
  pub right_of : length s ≡ words_for_lem n → ((i : ℕ) → n ≤ i → is_in_lem s i ≡ false) → set_bad_lem s n ≡ false
  unfolding set_bad_lem
  right_of e h =
      or_none (not (eqb (length s) (words_for_lem n))) (too_high s n) (ap not (eq-eqb (length s) (words_for_lem n) e))
      (all_fail (is_in_lem s) n (32 * length s - n) (λ i l k. h i l))

  -- so one of the right length, whose words end with row n - 1, is not
  pub by_length : length s ≡ words_for_lem n → length s ≤ n / 32 → false ≡ set_bad_lem s n
  by_length e h = sym (right_of e (λ i l. beyond s i (omega arith)))

  -- a row below n has its bit in a set that is not refused
  pub right-has : set_bad_lem s n ≡ false → (r : ℕ) → r < n → Has s r
  right-has e r h = omega (arith, right-length e)

  -- ---- by the last word
  module _ (narrow : Narrow s) (long : length s ≡ words_for_lem n) where
    -- no bit n or above: the word of row n is below that row's mask
    word_below : too_high s n ≡ false → word_of s n < mask n
    word_below e =
        low_word (word_of s n) (n % 32) (narrow (n / 32)) (omega arith)
        (λ k l h. digit_row s (n / 32) k h ∙ ap (λ (b : Bool). cond b 1 0) (none_above e (32 * (n / 32) + k) (omega arith)))

    -- it is below: there is no such bit, since all of them stand in that word
    none-high : word_of s n < mask n → too_high s n ≡ false
    unfolding bit_of
    none-high e = all_fail (is_in_lem s) n (32 * length s - n) off
      where
        off : (i : ℕ) → n ≤ i → i < n + (32 * length s - n) → is_in_lem s i ≡ false
        off i l h =
            let here : i / 32 ≡ n / 32 = omega (arith, long) in
            let none : digit (word_of s n) (i % 32) ≡ 0 = high_digit (word_of s n) (n % 32) (i % 32) e (omega arith) in
            ne_eqb (digit (word_of s i) (i % 32)) 1
            (λ q. omega (arith, none, subst (λ (j : ℕ). digit (get_or s j 0) (i % 32) ≡ 1) here q))

    -- A BIT n OR ABOVE IS ON EXACTLY WHERE THE LAST WORD IS NOT BELOW THE MASK OF ROW n
    pub high_bits : too_high s n ≡ leb (mask n) (word_of s n)
    high_bits = go (too_high s n) refl
      where
        go : (b : Bool) → too_high s n ≡ b → b ≡ leb (mask n) (word_of s n)
        go true e = sym (le-leb (mask n) (word_of s n) (not-below (λ h. never (sym (none-high h) ∙ e))))
          where
            not-below : {a b : ℕ} → (a < b → ⊥) → b ≤ a
            not-below h = omega arith
        go false e = sym (lt-leb (mask n) (word_of s n) (word_below e))

    -- so the last word alone decides
    pub by-last-word : leb (mask n) (word_of s n) ≡ set_bad_lem s n
    unfolding set_bad_lem
    by-last-word = rw (eq-eqb (length s) (words_for_lem n) long) (sym high_bits)

  -- a set of another length is refused
  pub wrong-length : (length s ≡ words_for_lem n → ⊥) → true ≡ set_bad_lem s n
  unfolding set_bad_lem
  wrong-length h = rw (ne_eqb (length s) (words_for_lem n) h)
