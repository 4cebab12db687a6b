-- A row's bit by shift and mask, as the code takes it: what the code computes is told by equations. Assumes nothing.
use Prim.Native.Nat.{◌%◌, ◌*◌, ◌/◌, ◌^◌, ◌≤◌, suc, zero, ℕ}
use Rattle.rowset.proofs.Digits.{digit, masked}
use Rattle.rowset.proofs.Refused.{by-last-word}
use Rattle.rowset.specs.Sets.{Narrow, bit_of, is_in_lem, mask, set_bad_lem, word_of, words_for_lem}
use borrow.Author.Tests.{eq-eqb, ne_eqb}
use lib.Bits.{bit_and}
use lib.Dec.{eqb, leb}
use lib.ListN.{get_or, length}
use lib.Pow.{pow_pos}
use mathlib.Core.Bool.{not}
use mathlib.Core.List.{List}
use mathlib.Core.Path.{◌∙◌, ◌≡◌, ap, ap₂}
use native.Mathlib.Omega.{arith}

module _ (s : List ℕ) (r at bit : ℕ) (word : at ≡ r / 32) (alone : bit ≡ mask r) where
  -- TESTED: what the mask leaves of the word
  pub tested : not (eqb (bit_and (get_or s at 0) bit) 0) ≡ is_in_lem s r
  unfolding bit_of
  tested =
      ap₂ (λ (j m : ℕ). not (eqb (bit_and (get_or s j 0) m) 0)) word alone ∙ ap (λ (b : ℕ). not (eqb b 0)) (masked (word_of s r) (r % 32))
      ∙ go (digit (word_of s r) (r % 32)) (omega arith)
    where
      go : (b : ℕ) → b ≤ 1 → not (eqb (b * 2 ^ (r % 32)) 0) ≡ eqb b 1
      go zero h = ap not (eq-eqb (0 * 2 ^ (r % 32)) 0 (omega arith))
      go (suc zero) h = ap not (ne_eqb (1 * 2 ^ (r % 32)) 0 (λ e. omega (arith, pow_pos (r % 32))))
      go (suc (suc b)) h = absurd (omega arith)

-- REFUSED: the last word is not below the mask of row n
pub not-below : (s : List ℕ) (n at bit : ℕ) → at ≡ n / 32 → bit ≡ mask n → Narrow s → length s ≡ words_for_lem n → leb bit (get_or s at 0) ≡ set_bad_lem s n
not-below s n at bit word alone narrow long = ap₂ (λ (j m : ℕ). leb m (get_or s j 0)) word alone ∙ by-last-word s n narrow long
