-- Writing: the words of a block, their bytes and their check, one word or block more at a time. Assumes nothing.
use Prim.Native.Nat.{◌*◌, ◌+◌, suc, zero, ℕ}
use Rattle.blocks.proofs.Checks.{check_append}
use Rattle.blocks.specs.Blocks.{block, blocks, bytes, check_from, check_word, step, window}
use Rattle.laws.specs.Lists.{each}
use Rattle.words.specs.Words.{at}
use lib.ListN.{length, length-append}
use mathlib.Core.List.{List, [], ◌++◌, ◌∷◌, append_assoc, append-nil}
use mathlib.Core.Path.{◌∙◌, ◌≡◌, ap, refl, sym}
use native.Mathlib.Numerals.{add-one}
use native.Mathlib.Omega.{arith}

-- ---- the bytes of words
-- the bytes of two lists are those of the first and then those of the second
pub bytes_append : (xs ys : List ℕ) → each bytes (xs ++ ys) ≡ each bytes xs ++ each bytes ys
bytes_append [] ys = refl
bytes_append (x ∷ xs) ys =
    ap (λ (l : List ℕ). bytes x ++ l) (bytes_append xs ys) ∙ sym (append_assoc (bytes x) (each bytes xs) (each bytes ys))

-- a word has four bytes
bytes-length : (xs : List ℕ) → length (each bytes xs) ≡ 4 * length xs
unfolding bytes
bytes-length [] = refl
bytes-length (x ∷ xs) = omega (arith, bytes-length xs)

-- ---- the words of a block
-- a window of k words has k
pub window-length : (ws : List ℕ) (p k : ℕ) → length (window ws p k) ≡ k
unfolding window
window-length ws p zero = refl
window-length ws p (suc k) = simp (length-append, window-length ws p k) (add-one k)

-- the bytes of a window of k words are 4 k
pub window-bytes-length : (ws : List ℕ) (p k : ℕ) → length (each bytes (window ws p k)) ≡ 4 * k
window-bytes-length ws p k = bytes-length (window ws p k) ∙ ap (λ (n : ℕ). 4 * n) (window-length ws p k)

-- a window of one word more
window_more : (ws : List ℕ) (p k : ℕ) → window ws p (k + 1) ≡ window ws p k ++ (at ws (p + k) ∷ [])
unfolding window
window_more ws p k = ap (window ws p) (add-one k)

-- its check: s is the check of k words from s₀ on, x the next word, and r the check one step further
pub window_check : (ws : List ℕ) (p s₀ s k x r : ℕ) → s ≡ check_from s₀ (window ws p k) → x ≡ at ws (p + k) → r ≡ step s x
    → r ≡ check_from s₀ (window ws p (k + 1))
unfolding check_from
window_check ws p s₀ s k x r e f g = rw (window_more, check_append, ← e, ← f) g

-- its bytes follow those of the k words before it
pub window_bytes : (ws : List ℕ) (p k : ℕ) → each bytes (window ws p (k + 1)) ≡ each bytes (window ws p k) ++ bytes (at ws (p + k))
window_bytes ws p k = rw (window_more, bytes_append, append-nil)

-- ---- the blocks
-- a block has 512 bytes
block-length : (ws : List ℕ) (b : ℕ) → length (block ws b) ≡ 512
unfolding block bytes
block-length ws b =
    length-append (each bytes (window ws (127 * b) 127)) (bytes (check_word b (window ws (127 * b) 127)))
    ∙ ap (λ (n : ℕ). n + 4) (window-bytes-length ws (127 * b) 127)

-- one block more
pub blocks_more : (ws : List ℕ) (k : ℕ) → blocks ws (k + 1) ≡ blocks ws k ++ block ws k
unfolding blocks
blocks_more ws k = ap (blocks ws) (add-one k)

-- k blocks have 512 k bytes
pub blocks-length : (ws : List ℕ) (k : ℕ) → length (blocks ws k) ≡ 512 * k
unfolding blocks
blocks-length ws zero = refl
blocks-length ws (suc k) = length-append (blocks ws k) (block ws k) ∙ omega (arith, blocks-length ws k, block-length ws k)
