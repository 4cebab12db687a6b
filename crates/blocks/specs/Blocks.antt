-- The blocks of an image: 127 index words and their check word each. 01, The image. Assumes nothing.
use Rattle.std.specs.Prelude.{ℕ, zero, suc, ◌+◌, ◌*◌, ◌/◌, ◌%◌, ◌^◌, Bool, List, [], ◌∷◌, ◌++◌, ◌==◌}
use Rattle.laws.specs.Lists.{each}
use Rattle.words.specs.Words.{at}

-- ---- the check word
-- a word, rotated left by one bit
unfoldable pub rotate : ℕ → ℕ
rotate s = s % 2 ^ 31 * 2 + s / 2 ^ 31

-- one step: rotate, add the word, wrap at 32 bits
unfoldable pub step : ℕ → ℕ → ℕ
step s x = (rotate s + x) % 2 ^ 32

-- the check of the words from s on
unfoldable pub check_from : ℕ → List ℕ → ℕ
check_from s [] = s
check_from s (x ∷ xs) = check_from (step s x) xs

-- the check word of block b: its check starts at the block's number plus 1
unfoldable pub check_word : ℕ → List ℕ → ℕ
check_word b ws = check_from ((b + 1) % 2 ^ 32) ws

-- ---- the words of an index, in blocks
-- how many blocks hold t words, 127 to a block
unfoldable pub blocks_for_lem : ℕ → ℕ
blocks_for_lem t = (t + 126) / 127

-- k words from place p on; after the last they are zero
unfoldable pub window : List ℕ → ℕ → ℕ → List ℕ
window ws p zero = []
window ws p (suc k) = window ws p k ++ (at ws (p + k) ∷ [])

-- a word's four bytes, the lowest first
unfoldable pub bytes : ℕ → List ℕ
bytes x = x % 256 ∷ x / 256 % 256 ∷ x / 65536 % 256 ∷ x / 16777216 % 256 ∷ []

-- block b: 127 words and their check word
unfoldable pub block : List ℕ → ℕ → List ℕ
block ws b = each bytes (window ws (127 * b) 127) ++ bytes (check_word b (window ws (127 * b) 127))

-- the first k blocks
unfoldable pub blocks : List ℕ → ℕ → List ℕ
blocks ws zero = []
blocks ws (suc k) = blocks ws k ++ block ws k

-- ---- the words that stand in an image
-- the word that the four bytes from place p on are
unfoldable pub word_at : List ℕ → ℕ → ℕ
word_at i p = at i p + 256 * at i (p + 1) + 65536 * at i (p + 2) + 16777216 * at i (p + 3)

-- the k words that stand from byte p on
unfoldable pub words_at : List ℕ → ℕ → ℕ → List ℕ
words_at i p zero = []
words_at i p (suc k) = words_at i p k ++ (word_at i (p + 4 * k) ∷ [])

-- block b's check word is that of its 127 words
unfoldable pub block_good_lem : List ℕ → ℕ → Bool
block_good_lem i b = check_word b (words_at i (512 * b) 127) == word_at i (512 * b + 508)

-- index word j: every 127 are followed by a check word
unfoldable pub image_word_lem : List ℕ → ℕ → ℕ
image_word_lem i j = word_at i (4 * j + 4 * (j / 127))

-- the first k index words
unfoldable pub image_words : List ℕ → ℕ → List ℕ
image_words i zero = []
image_words i (suc k) = image_words i k ++ (image_word_lem i k ∷ [])
