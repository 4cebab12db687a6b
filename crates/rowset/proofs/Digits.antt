-- The binary digits of a number, and of a word in which one bit is put on or off. Assumes nothing.
use Prim.Native.Nat.{◌%◌, ◌*◌, ◌+◌, ◌-◌, ◌/◌, ◌<◌, ◌^◌, ◌≤◌, max, min, suc, zero, ℕ}
use borrow.Author.Tests.{eqb-false, eqb-true}
use lib.Bits.{and_high, and_mask, and_shr, and_step, bit_and, bit_or, bit_xor, differ, or_shr, or_step, xor_add_and, xor_shr, xor_step}
use lib.Dec.{eqb}
use lib.Pow.{high, ones_lt, ones_split, pow-add, pow-lt, pow_mono, pow_pos, shl_exact, shl-shr, shr_lt, shr-shr}
use mathlib.Core.Bool.{Bool, cond, false, true}
use mathlib.Core.Path.{◌∙◌, ◌≡◌, ap, refl, subst, sym}
use native.Mathlib.Decide.{dec_lt}
use native.Mathlib.Nat.{div-eq_of_lt, div-lt_iff_lt-mul, mod-eq_of_lt, pow-suc}
use native.Mathlib.Omega.{arith}

-- digit k
abbrev pub digit : ℕ → ℕ → ℕ
digit w k = w / 2 ^ k % 2

-- a number below 2 ^ p has no digit from p on but 0
pub high_digit : (w p k : ℕ) → w < 2 ^ p → p ≤ k → digit w k ≡ 0
high_digit w p k h l = let none : w / 2 ^ k ≡ 0 = div-eq_of_lt (omega (arith, pow_mono l)) in omega arith

-- and 0 none at all
pub zero_digit : (k : ℕ) → digit 0 k ≡ 0
zero_digit k = high_digit 0 0 k (omega arith) (omega arith)

-- 1 shifted up stays in a word of 32 bits
pub one_shifted : (p : ℕ) → p < 32 → 1 * 2 ^ p % 4_294_967_296 ≡ 2 ^ p
one_shifted p h = shl_exact {a = 1} 1 p 32 (omega arith) (omega arith) ∙ omega arith

-- ---- digit by digit
-- the greater of the two
or_digit : (a b k : ℕ) → digit (bit_or a b) k ≡ max (digit a k) (digit b k)
or_digit a b k = ap (λ (x : ℕ). x % 2) (or_shr a b k) ∙ omega (arith, or_step (a / 2 ^ k) (b / 2 ^ k))

-- the lesser of the two
and_digit : (a b k : ℕ) → digit (bit_and a b) k ≡ min (digit a k) (digit b k)
and_digit a b k = ap (λ (x : ℕ). x % 2) (and_shr a b k) ∙ omega (arith, and_step (a / 2 ^ k) (b / 2 ^ k))

-- whether they differ
xor_digit : (a b k : ℕ) → digit (bit_xor a b) k ≡ differ (digit a k) (digit b k) % 2
xor_digit a b k =
    ap (λ (x : ℕ). x % 2) (xor_shr a b k ∙ xor_step (a / 2 ^ k) (b / 2 ^ k))
    ∙ go (bit_xor (a / 2 ^ k / 2) (b / 2 ^ k / 2)) (differ (digit a k) (digit b k))
  where
    go : (u v : ℕ) → (u * 2 + v) % 2 ≡ v % 2
    go u v = omega arith

-- ---- a power of two has one digit 1
-- all powers but the first are even
even_power : (j : ℕ) → 2 ^ suc j % 2 ≡ 0
even_power j = ap (λ (x : ℕ). x % 2) (pow-suc 2 j) ∙ omega arith

-- at its own place
power_here : (p : ℕ) → digit (2 ^ p) p ≡ 1
power_here p = ap (λ (n : ℕ). n / 2 ^ p % 2) (once (2 ^ p)) ∙ ap (λ (n : ℕ). n % 2) (shl-shr 1 p)
  where
    once : (n : ℕ) → n ≡ 1 * n
    once n = omega arith

-- and nowhere else
power_elsewhere : (p k : ℕ) → (k ≡ p → ⊥) → digit (2 ^ p) k ≡ 0
power_elsewhere p k d = go (dec_lt p k)
  where
    go : Dec (p < k) → digit (2 ^ p) k ≡ 0
    go (yes h) = high_digit (2 ^ p) k k (pow-lt h) (omega arith)
    go (no h) =
        let j : ℕ = p - suc k in
        let e : p ≡ suc j + k = omega (arith, d) in
        ap (λ (n : ℕ). n / 2 ^ k % 2) (ap (λ (n : ℕ). 2 ^ n) e ∙ pow-add 2 (suc j) k) ∙ ap (λ (n : ℕ). n % 2) (shl-shr (2 ^ suc j) k) ∙ even_power j

-- a mask of one bit leaves that digit, at its place
pub masked : (w p : ℕ) → bit_and w (2 ^ p) ≡ digit w p * 2 ^ p
masked w p =
    let one : 2 ^ p ≡ 2 ^ (1 + p) - 2 ^ p = omega (arith, pow-add 2 1 p) in
    ap (bit_and w) one ∙ and_high w 1 p

-- ---- the greatest word, and what is left of it without a power of two
-- every digit of the greatest word is 1
ones_digit : (k : ℕ) → k < 32 → digit 4_294_967_295 k ≡ 1
ones_digit k h = go (31 - k) (omega arith)
  where
    go : (j : ℕ) → 32 ≡ suc j + k → digit 4_294_967_295 k ≡ 1
    go j e =
        let split : 4_294_967_295 ≡ (2 ^ suc j - 1) * 2 ^ k + (2 ^ k - 1) = ap (λ (n : ℕ). 2 ^ n - 1) e ∙ ones_split (suc j) k in
        ap (λ (n : ℕ). n / 2 ^ k % 2) split ∙ ap (λ (n : ℕ). n % 2) (high (2 ^ suc j - 1) k (ones_lt k))
        ∙ omega (arith, even_power j, pow_pos (suc j))

-- the greatest word less a power of two differs from it in that digit alone
left_digit : (p k : ℕ) → p < 32 → k < 32 → digit (4_294_967_295 - 2 ^ p) k ≡ 1 - digit (2 ^ p) k
left_digit p k hp hk =
    let whole : bit_and (2 ^ p) 4_294_967_295 ≡ 2 ^ p = and_mask (2 ^ p) 32 ∙ mod-eq_of_lt (pow-lt hp) in
    let left : bit_xor (2 ^ p) 4_294_967_295 ≡ 4_294_967_295 - 2 ^ p = less (xor_add_and (2 ^ p) 4_294_967_295) whole in
    ap (λ (n : ℕ). digit n k) (sym left) ∙ xor_digit (2 ^ p) 4_294_967_295 k ∙ ap (λ (n : ℕ). differ (digit (2 ^ p) k) n % 2) (ones_digit k hk)
    ∙ other (digit (2 ^ p) k) (omega arith)
  where
    less : {x a b : ℕ} → x + a * 2 ≡ b + 4_294_967_295 → a ≡ b → x ≡ 4_294_967_295 - b
    less e q = omega arith

    other : (b : ℕ) → b ≤ 1 → differ b 1 % 2 ≡ 1 - b
    other zero h = refl
    other (suc zero) h = refl
    other (suc (suc b)) h = absurd (omega arith)

-- ---- one bit put on or off
-- ON: that digit is 1, and every other is as it was
pub on_digit : (w p k : ℕ) → digit (bit_or w (2 ^ p)) k ≡ cond (eqb k p) 1 (digit w k)
on_digit w p k = or_digit w (2 ^ p) k ∙ go (eqb k p) refl
  where
    go : (b : Bool) → eqb k p ≡ b → max (digit w k) (digit (2 ^ p) k) ≡ cond b 1 (digit w k)
    go true e = omega (arith, subst (λ (n : ℕ). digit (2 ^ p) n ≡ 1) (sym (eqb-true k p e)) (power_here p))
    go false e = omega (arith, power_elsewhere p k (eqb-false k p e))

-- OFF: that digit is 0, and every other is as it was
pub off_digit : (w p k : ℕ) → p < 32 → k < 32 → digit (bit_and w (4_294_967_295 - 2 ^ p)) k ≡ cond (eqb k p) 0 (digit w k)
off_digit w p k hp hk = and_digit w (4_294_967_295 - 2 ^ p) k ∙ ap (λ (n : ℕ). min (digit w k) n) (left_digit p k hp hk) ∙ go (eqb k p) refl
  where
    go : (b : Bool) → eqb k p ≡ b → min (digit w k) (1 - digit (2 ^ p) k) ≡ cond b 0 (digit w k)
    go true e = omega (arith, subst (λ (n : ℕ). digit (2 ^ p) n ≡ 1) (sym (eqb-true k p e)) (power_here p))
    go false e = omega (arith, power_elsewhere p k (eqb-false k p e))

-- ---- numbers by their digits
-- TWO NUMBERS OF k DIGITS ARE EQUAL WHERE THEIR DIGITS ARE
pub same_digits : (k a b : ℕ) → a < 2 ^ k → b < 2 ^ k → ((i : ℕ) → i < k → digit a i ≡ digit b i) → a ≡ b
same_digits zero a b ha hb h = omega arith
same_digits (suc k) a b ha hb h =
    let double = pow-suc 2 k in
    let first : a / 1 % 2 ≡ b / 1 % 2 = h 0 (omega arith) in
    let rest : a / 2 ≡ b / 2 = same_digits k (a / 2) (b / 2) (omega arith) (omega arith) (λ i l. higher a i ∙ h (suc i) (omega arith) ∙ sym (higher b i)) in
    omega arith
  where
    higher : (n i : ℕ) → digit (n / 2) i ≡ digit n (suc i)
    higher n i = ap (λ (x : ℕ). x % 2) (shr-shr n 1 i) ∙ ap (digit n) (omega arith)

-- a number of 32 digits, of which none from p on is 1, is below 2 ^ p
pub low_word : (w p : ℕ) → w < 4_294_967_296 → p ≤ 32 → ((k : ℕ) → p ≤ k → k < 32 → digit w k ≡ 0) → w < 2 ^ p
low_word w p small h f =
    let rest : 32 ≡ (32 - p) + p = omega arith in
    let none : w / 2 ^ p ≡ 0 =
    same_digits (32 - p) (w / 2 ^ p) 0 (shr_lt (32 - p) p (subst (λ (n : ℕ). w < 2 ^ n) rest small)) (pow_pos (32 - p))
    (λ k l. ap (λ (n : ℕ). n % 2) (shr-shr w p k) ∙ f (p + k) (omega arith) (omega arith) ∙ sym (zero_digit k)) in
    omega (arith, (div-lt_iff_lt-mul {x = w} {y = 1} (pow_pos p)).0 (omega arith))
