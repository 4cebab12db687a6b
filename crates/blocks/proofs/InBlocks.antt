-- Reading block by block: where a block's words stand, and that they follow those of the blocks before it. Assumes nothing.
use Rattle.std.proofs.Common.{◌≡◌, ℕ, zero, suc, ◌+◌, ◌*◌, ◌/◌, ◌<◌, ◌≤◌, List, [], ◌∷◌, ◌++◌, sym, ap, ap₂, ◌∙◌, arith, append_assoc, append-nil, add-zero}
use Rattle.blocks.specs.Blocks.{image_word_lem, image_words, word_at, words_at}
use native.Mathlib.Nat.{add-suc}

-- word j of block b lies within the n bytes
pub inside-block : (b j n : ℕ) → 127 * b ≤ j → j < 127 * b + 127 → j < 127 * (n / 512) → 4 * j + 4 * b + 4 ≤ n
inside-block b j n l h k = omega arith

-- the word at that place is index word j
pub block_word_lem : (i : List ℕ) (b j : ℕ) {v : ℕ} → 127 * b ≤ j → j < 127 * b + 127 → v ≡ word_at i (4 * j + 4 * b) → v ≡ image_word_lem i j
unfolding image_word_lem
block_word_lem i b j l h e =
    let q : b ≡ j / 127 = omega arith in
    e ∙ ap (λ (b : ℕ). word_at i (4 * j + 4 * b)) q

-- the first k words of block b follow the index words of the blocks before it
pub block_words : (i : List ℕ) (b k : ℕ) → k ≤ 127 → image_words i (127 * b) ++ words_at i (512 * b) k ≡ image_words i (127 * b + k)
unfolding words_at image_words
block_words i b zero h = append-nil (image_words i (127 * b)) ∙ ap (image_words i) (sym (add-zero (127 * b)))
block_words i b (suc k) h =
    let place : 512 * b + 4 * k ≡ 4 * (127 * b + k) + 4 * b = omega arith in
    let word : word_at i (512 * b + 4 * k) ≡ image_word_lem i (127 * b + k) =
    block_word_lem i b (127 * b + k) (omega arith) (omega arith) (ap (word_at i) place) in
    sym (append_assoc (image_words i (127 * b)) (words_at i (512 * b) k) (word_at i (512 * b + 4 * k) ∷ []))
    ∙ ap₂ (λ (l : List ℕ) (x : ℕ). l ++ (x ∷ [])) (block_words i b k (omega arith)) word ∙ ap (image_words i) (sym (add-suc (127 * b) k))
