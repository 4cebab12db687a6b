-- A set, row by row: which rows are in it after a strike or a restore, and that its rows are all that a set is. Assumes nothing.
use Prim.Native.Nat.{◌%◌, ◌*◌, ◌+◌, ◌-◌, ◌/◌, ◌<◌, ◌≤◌, suc, zero, ℕ}
use Rattle.rowset.proofs.Digits.{digit, off_digit, on_digit, same_digits, zero_digit}
use Rattle.rowset.specs.Sets.{Narrow, bit_of, is_in_lem, mask, restored, struck, word_of}
use borrow.Author.Tests.{eq-eqb, eqb-false, eqb-true, ne_eqb}
use lib.Bits.{and_le_l, bit_and, bit_or, or_lt}
use lib.Dec.{eqb}
use lib.ListN.{get_or-eq_default, get_or, length, length-set, set}
use lib.Pow.{pow-lt}
use lib.Seq.{ext_get_or, get_or-set_other, get_or-set_same}
use mathlib.Core.Bool.{Bool, cond, false, true}
use mathlib.Core.List.{List, [], ◌∷◌}
use mathlib.Core.Path.{◌∙◌, ◌≡◌, ap, ap₂, refl, sym}
use native.Mathlib.Decide.{ℕ_discrete}
use native.Mathlib.Omega.{arith}

-- row r's bit stands in one of the set's words
abbrev pub Has : List ℕ → ℕ → Type 0
Has s r = r / 32 < length s

-- ---- a row's bit
-- it is 1 where the row is in the set, else 0
bit_is : (s : List ℕ) (i : ℕ) → bit_of s i ≡ cond (is_in_lem s i) 1 0
unfolding bit_of
bit_is s i = go (digit (word_of s i) (i % 32)) (omega arith)
  where
    go : (b : ℕ) → b ≤ 1 → b ≡ cond (eqb b 1) 1 0
    go zero h = refl
    go (suc zero) h = refl
    go (suc (suc b)) h = absurd (omega arith)

-- digit k of word j is the bit of row 32j + k
pub digit_row : (s : List ℕ) (j k : ℕ) → k < 32 → digit (get_or s j 0) k ≡ cond (is_in_lem s (32 * j + k)) 1 0
unfolding bit_of
digit_row s j k h =
    let word : j ≡ (32 * j + k) / 32 = omega arith in
    let place : k ≡ (32 * j + k) % 32 = omega arith in
    ap₂ (λ (w p : ℕ). digit (get_or s w 0) p) word place ∙ bit_is s (32 * j + k)

-- a row beyond the words is not in
pub beyond : (s : List ℕ) (i : ℕ) → length s ≤ i / 32 → is_in_lem s i ≡ false
unfolding bit_of
beyond s i h = ne_eqb (digit (word_of s i) (i % 32)) 1 (λ q. omega (arith, none))
  where
    none : digit (word_of s i) (i % 32) ≡ 0
    none = ap (λ (w : ℕ). digit w (i % 32)) (get_or-eq_default s 0 h) ∙ zero_digit (i % 32)

-- ---- one row's bit changed
-- in one word rows are told apart by their bits' places
in_word : (i r : ℕ) → i / 32 ≡ r / 32 → eqb (i % 32) (r % 32) ≡ eqb i r
in_word i r e = go (eqb i r) refl
  where
    go : (t : Bool) → eqb i r ≡ t → eqb (i % 32) (r % 32) ≡ t
    go true q = eq-eqb (i % 32) (r % 32) (ap (λ (n : ℕ). n % 32) (eqb-true i r q))
    go false q = ne_eqb (i % 32) (r % 32) (λ k. eqb-false i r q (omega arith))

-- the set with another word v in the place of row r's, in which that row's bit is b and every other as it was
turned : (s : List ℕ) (r v b i : ℕ) → Has s r → ((k : ℕ) → k < 32 → digit v k ≡ cond (eqb k (r % 32)) b (digit (word_of s r) k))
    → bit_of (set s (r / 32) v) i ≡ cond (eqb i r) b (bit_of s i)
unfolding bit_of
turned s r v b i h one = go (ℕ_discrete (i / 32) (r / 32))
  where
    go : Dec (i / 32 ≡ r / 32) → digit (get_or (set s (r / 32) v) (i / 32) 0) (i % 32) ≡ cond (eqb i r) b (digit (get_or s (i / 32) 0) (i % 32))
    go (yes e) =
        ap (λ (n : ℕ). digit n (i % 32)) (ap (λ (n : ℕ). get_or (set s (r / 32) v) n 0) e ∙ get_or-set_same s (r / 32) v 0 h)
        ∙ one (i % 32) (omega arith)
        ∙ ap₂ (λ (t : Bool) (n : ℕ). cond t b (digit (get_or s n 0) (i % 32))) (in_word i r e) (sym e)
    go (no d) =
        let other : eqb i r ≡ false = ne_eqb i r (λ e. d (ap (λ (n : ℕ). n / 32) e)) in
        ap (λ (n : ℕ). digit n (i % 32)) (get_or-set_other s (r / 32) (i / 32) v 0 d)
        ∙ sym (ap (λ (t : Bool). cond t b (digit (get_or s (i / 32) 0) (i % 32))) other)

-- AFTER A STRIKE THE ROW IS IN, AND EVERY OTHER IS AS IT WAS
pub in_struck : (s : List ℕ) (r i : ℕ) → Has s r → is_in_lem (struck s r) i ≡ cond (eqb i r) true (is_in_lem s i)
unfolding struck
in_struck s r i h = ap (λ (b : ℕ). eqb b 1) bit ∙ go (eqb i r)
  where
    bit : bit_of (struck s r) i ≡ cond (eqb i r) 1 (bit_of s i)
    bit = turned s r (bit_or (word_of s r) (mask r)) 1 i h (λ k l. on_digit (word_of s r) (r % 32) k)

    go : (t : Bool) → eqb (cond t 1 (bit_of s i)) 1 ≡ cond t true (is_in_lem s i)
    go true = refl
    go false = refl

-- AFTER A RESTORE THE ROW IS NOT IN, AND EVERY OTHER IS AS IT WAS
pub in_restored : (s : List ℕ) (r i : ℕ) → Has s r → is_in_lem (restored s r) i ≡ cond (eqb i r) false (is_in_lem s i)
unfolding restored
in_restored s r i h = ap (λ (b : ℕ). eqb b 1) bit ∙ go (eqb i r)
  where
    bit : bit_of (restored s r) i ≡ cond (eqb i r) 0 (bit_of s i)
    bit = turned s r (bit_and (word_of s r) (4_294_967_295 - mask r)) 0 i h (λ k l. off_digit (word_of s r) (r % 32) k (omega arith) l)

    go : (t : Bool) → eqb (cond t 0 (bit_of s i)) 1 ≡ cond t false (is_in_lem s i)
    go true = refl
    go false = refl

-- ---- what stays
-- the number of words
pub struck-length : (s : List ℕ) (r : ℕ) → length (struck s r) ≡ length s
unfolding struck
struck-length s r = simp length-set

pub restored-length : (s : List ℕ) (r : ℕ) → length (restored s r) ≡ length s
unfolding restored
restored-length s r = simp length-set

-- a word of 32 bits put into words of 32 bits
narrow_set : (s : List ℕ) (j v : ℕ) → Narrow s → v < 4_294_967_296 → Narrow (set s j v)
narrow_set [] j v h k i = h i
narrow_set (x ∷ xs) zero v h k zero = k
narrow_set (x ∷ xs) zero v h k (suc i) = h (suc i)
narrow_set (x ∷ xs) (suc j) v h k zero = h 0
narrow_set (x ∷ xs) (suc j) v h k (suc i) = narrow_set xs j v (λ m. h (suc m)) k i

-- that each of them has 32 bits
pub struck_narrow : (s : List ℕ) (r : ℕ) → Narrow s → Narrow (struck s r)
unfolding struck
struck_narrow s r h =
    narrow_set s (r / 32) (bit_or (word_of s r) (mask r)) h (or_lt 32 (word_of s r) (mask r) (h (r / 32)) (pow-lt {i = r % 32} {j = 32} (omega arith)))

pub restored_narrow : (s : List ℕ) (r : ℕ) → Narrow s → Narrow (restored s r)
unfolding restored
restored_narrow s r h =
    let v : ℕ = bit_and (word_of s r) (4_294_967_295 - mask r) in
    narrow_set s (r / 32) v h (omega (arith, and_le_l (word_of s r) (4_294_967_295 - mask r), h (r / 32)))

-- ---- TWO SETS OF AS MANY WORDS THAT HAVE THE SAME ROWS ARE ONE
pub same_rows : (s t : List ℕ) → Narrow s → Narrow t → length s ≡ length t → ((i : ℕ) → is_in_lem s i ≡ is_in_lem t i) → s ≡ t
same_rows s t hs ht e h =
    ext_get_or 0 s t e
    (λ j l. same_digits 32 (get_or s j 0) (get_or t j 0) (hs j) (ht j)
    (λ k q. digit_row s j k q ∙ ap (λ (b : Bool). cond b 1 0) (h (32 * j + k)) ∙ sym (digit_row t j k q)))
