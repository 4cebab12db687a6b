-- The check word: each of its steps is one-to-one, so that what it starts at and each of its words show in it. Assumes nothing.
use Rattle.std.proofs.Common.{◌≡◌, ℕ, ◌+◌, ◌*◌, ◌/◌, ◌%◌, ◌^◌, ◌<◌, List, [], ◌∷◌, ◌++◌, bit_or, w32, refl, ap, ◌∙◌, arith}
use Rattle.std.proofs.lemmas.Nat.{or_shifted}
use Rattle.std.specs.Int.{rotate_left}
use Rattle.blocks.specs.Blocks.{check_from, check_word, rotate, step}

-- ---- one step
-- `s.rotate_left(1)` is s, rotated
pub rotate_left-is : (s : ℕ) → s < 2 ^ 32 → rotate_left w32 s 1 ≡ rotate s
unfolding rotate
rotate_left-is s h =
    let low : s * 2 % 2 ^ 32 ≡ s % 2 ^ 31 * 2 = omega arith in
    ap (λ (n : ℕ). bit_or n (s / 2 ^ 31)) low ∙ or_shifted (s % 2 ^ 31) 1 (s / 2 ^ 31) (omega arith)

-- a rotated word fits 32 bits
rotate_lt : (s : ℕ) → s < 2 ^ 32 → rotate s < 2 ^ 32
unfolding rotate
rotate_lt s h = omega arith

-- ROTATING IS ONE-TO-ONE
pub rotate_one : (s t : ℕ) → s < 2 ^ 32 → t < 2 ^ 32 → rotate s ≡ rotate t → s ≡ t
unfolding rotate
rotate_one s t hs ht e = omega arith

-- adding a word, wrapping, is one-to-one in what it is added to
wrap_one : (a b x : ℕ) → a < 2 ^ 32 → b < 2 ^ 32 → (a + x) % 2 ^ 32 ≡ (b + x) % 2 ^ 32 → a ≡ b
wrap_one a b x ha hb e = omega arith

-- a step's result fits 32 bits
step_lt : (s x : ℕ) → step s x < 2 ^ 32
unfolding step
step_lt s x = omega arith

-- A STEP IS ONE-TO-ONE IN THE CHECK SO FAR
pub step_state : (s t x : ℕ) → s < 2 ^ 32 → t < 2 ^ 32 → step s x ≡ step t x → s ≡ t
unfolding step
step_state s t x hs ht e = rotate_one s t hs ht (wrap_one (rotate s) (rotate t) x (rotate_lt s hs) (rotate_lt t ht) e)

-- A STEP IS ONE-TO-ONE IN THE WORD
pub step_word : (s x y : ℕ) → x < 2 ^ 32 → y < 2 ^ 32 → step s x ≡ step s y → x ≡ y
unfolding step
step_word s x y hx hy e = omega arith

-- ---- over many words
-- the check of two lists is that of the second, started at that of the first
pub check_append : (us vs : List ℕ) (s : ℕ) → check_from s (us ++ vs) ≡ check_from (check_from s us) vs
unfolding check_from
check_append [] vs s = refl
check_append (u ∷ us) vs s = check_append us vs (step s u)

-- from a start of 32 bits the check fits 32 bits
pub from_lt : (ws : List ℕ) (s : ℕ) → s < 2 ^ 32 → check_from s ws < 2 ^ 32
unfolding check_from
from_lt [] s h = h
from_lt (x ∷ ws) s h = from_lt ws (step s x) (step_lt s x)

-- a check word fits 32 bits
pub check_lt : (b : ℕ) (ws : List ℕ) → check_word b ws < 2 ^ 32
unfolding check_word
check_lt b ws = from_lt ws ((b + 1) % 2 ^ 32) (omega arith)

-- the same words have the same check from one start only
from_start : (ws : List ℕ) (s t : ℕ) → s < 2 ^ 32 → t < 2 ^ 32 → check_from s ws ≡ check_from t ws → s ≡ t
unfolding check_from
from_start [] s t hs ht e = e
from_start (x ∷ ws) s t hs ht e = step_state s t x hs ht (from_start ws (step s x) (step t x) (step_lt s x) (step_lt t x) e)

-- THE SAME WORDS HAVE THE SAME CHECK WORD UNDER ONE BLOCK NUMBER ONLY
pub check_place : (a b : ℕ) (ws : List ℕ) → a < 2 ^ 32 → b < 2 ^ 32 → check_word a ws ≡ check_word b ws → a ≡ b
unfolding check_word
check_place a b ws ha hb e = wrap_one a b 1 ha hb (from_start ws ((a + 1) % 2 ^ 32) ((b + 1) % 2 ^ 32) (omega arith) (omega arith) e)
