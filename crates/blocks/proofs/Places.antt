-- Reading: the words of a block and of an image, one word more at a time, and where they stand. Assumes nothing.
use Rattle.std.proofs.Common.{◌≡◌, ℕ, zero, suc, ◌+◌, ◌*◌, ◌/◌, ◌<◌, ◌≤◌, List, [], ◌∷◌, ◌++◌, length, refl, ap, add-zero, add-one, arith, length-append}
use Rattle.blocks.proofs.Checks.{check_append}
use Rattle.blocks.specs.Blocks.{blocks_for_lem, check_from, image_word_lem, image_words, step, word_at, words_at}
use Rattle.words.specs.Words.{at}

-- words whose four bytes are the same are the same
pub word_cong : (i i' : List ℕ) (q q' : ℕ) → ((d : ℕ) → d < 4 → at i (q + d) ≡ at i' (q' + d)) → word_at i q ≡ word_at i' q'
unfolding word_at
word_cong i i' q q' f =
    let a : at i q ≡ at i' q' = rw (add-zero q, add-zero q') at (f 0 (omega arith)) in
    omega (arith, f 1 (omega arith), f 2 (omega arith), f 3 (omega arith))

-- ---- the words of a block
-- one word more
pub words_more : (i : List ℕ) (p k : ℕ) → words_at i p (k + 1) ≡ words_at i p k ++ (word_at i (p + 4 * k) ∷ [])
unfolding words_at
words_more i p k = ap (words_at i p) (add-one k)

-- k words are k
pub words-length : (i : List ℕ) (p k : ℕ) → length (words_at i p k) ≡ k
unfolding words_at
words-length i p zero = refl
words-length i p (suc k) = simp (length-append, words-length i p k) (add-one k)

-- the check of the first k of them, one word further: s is that check from s₀ on, x the next word, and r the check one step further
pub words_check : (i : List ℕ) (p s₀ s k x r : ℕ) → s ≡ check_from s₀ (words_at i p k) → x ≡ word_at i (p + 4 * k) → r ≡ step s x
    → r ≡ check_from s₀ (words_at i p (k + 1))
unfolding check_from
words_check i p s₀ s k x r e f g = rw (words_more i p k, check_append, ← e, ← f) g

-- ---- the words of an image
-- one index word more
pub image_more : (i : List ℕ) (k : ℕ) → image_words i (k + 1) ≡ image_words i k ++ (image_word_lem i k ∷ [])
unfolding image_words
image_more i k = ap (image_words i) (add-one k)

-- k index words are k
pub image-length : (i : List ℕ) (k : ℕ) → length (image_words i k) ≡ k
unfolding image_words
image-length i zero = refl
image-length i (suc k) = simp (length-append, image-length i k) (add-one k)

-- index word j, one of the 127 of each block, lies within the n bytes
pub inside : (j n : ℕ) → j < 127 * (n / 512) → 4 * j + 4 * (j / 127) + 4 ≤ n
inside j n h = omega arith

-- the blocks for t words have places for them
pub blocks_hold : (t k : ℕ) → blocks_for_lem t ≡ k → t ≤ 127 * k
unfolding blocks_for_lem
blocks_hold t k e = omega arith
