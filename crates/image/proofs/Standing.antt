-- What stands in the blocks that are written: each of their words is read back, and their check words are right. Assumes nothing.
use Prim.Native.Nat.{◌%◌, ◌*◌, ◌+◌, ◌-◌, ◌/◌, ◌<◌, ◌^◌, ◌≤◌, suc, zero, ℕ}
use Rattle.blocks.proofs.Checks.{check_lt}
use Rattle.blocks.proofs.Places.{word_cong}
use Rattle.blocks.specs.Blocks.{block, block_good_lem, blocks, bytes, check_word, image_word_lem, image_words, window, word_at, words_at}
use Rattle.blocks.specs.Lowest.{wrong_blocks}
use Rattle.image.proofs.Blocks.{blocks-length, bytes_append, window-length}
use Rattle.image.specs.Below.{Below}
use Rattle.laws.proofs.Empty.{keep-none}
use Rattle.laws.proofs.Every.{all_of}
use Rattle.laws.proofs.Ranges.{at_every, range-every}
use Rattle.laws.proofs.Tests.{eq_test, is_true}
use Rattle.laws.specs.Lists.{all, each, range}
use Rattle.words.specs.Words.{at}
use borrow.Author.Tests.{eq-eqb, leb-false, leb-true}
use lib.Dec.{T, eqb, leb}
use lib.ListN.{get_or-append, get_or-eq_default, length, length-append, take}
use lib.Seq.{get_or-append-add, get_or_at, take-suc}
use mathlib.Core.Bool.{Bool, false, not, true}
use mathlib.Core.List.{List, [], ◌++◌, ◌∷◌, append-nil}
use mathlib.Core.Path.{◌∙◌, ◌≡◌, ap, ap₂, refl, sym}
use native.Mathlib.Nat.{div-add-mod, div-div-eq-div-mul, mod-eq_of_lt, not-suc-le-zero}
use native.Mathlib.Omega.{arith}

-- ---- a word and its four bytes
-- a word is read back from its own four bytes
word_bytes : (x : ℕ) (r : List ℕ) → x < 2 ^ 32 → word_at (bytes x ++ r) 0 ≡ x
unfolding word_at bytes
word_bytes x r h =
    let p : x / 65536 ≡ x / 256 / 256 = sym (div-div-eq-div-mul x 256 256) in
    let q : x / 16777216 ≡ x / 65536 / 256 = sym (div-div-eq-div-mul x 65536 256) in
    let t : x / 16777216 % 256 ≡ x / 16777216 = mod-eq_of_lt (omega arith) in
    omega (arith, div-add-mod x 256, div-add-mod (x / 256) 256, div-add-mod (x / 65536) 256)

-- a byte past a word's four is the one there
byte_on : (x : ℕ) (r : List ℕ) (n m : ℕ) → m ≡ 4 + n → at (bytes x ++ r) m ≡ at r n
unfolding bytes
byte_on x r n m e = ap (at (bytes x ++ r)) e ∙ get_or-append-add (bytes x) r n 0

-- a word that starts past them is the one there
word_on : (x : ℕ) (r : List ℕ) (n : ℕ) → word_at (bytes x ++ r) (4 + n) ≡ word_at r n
word_on x r n = word_cong (bytes x ++ r) r (4 + n) n (λ d h. byte_on x r (n + d) (4 + n + d) (omega arith))

-- word j of a list is read back from its place among the list's bytes
word_of : (xs : List ℕ) (j : ℕ) → j < length xs → at xs j < 2 ^ 32 → word_at (each bytes xs) (4 * j) ≡ at xs j
word_of [] j h l = absurd (omega arith)
word_of (x ∷ xs) zero h l = word_bytes x (each bytes xs) l
word_of (x ∷ xs) (suc j) h l =
    let e : 4 * suc j ≡ 4 + 4 * j = omega arith in
    ap (word_at (each bytes (x ∷ xs))) e ∙ word_on x (each bytes xs) (4 * j) ∙ word_of xs j (omega arith) l

-- ---- one block
-- its 128 words, the check word last
cell : List ℕ → ℕ → List ℕ
cell ws b = window ws (127 * b) 127 ++ (check_word b (window ws (127 * b) 127) ∷ [])

-- a block's words are 128
cell_length : (ws : List ℕ) (b : ℕ) → length (cell ws b) ≡ 128
unfolding cell
cell_length ws b =
    length-append (window ws (127 * b) 127) (check_word b (window ws (127 * b) 127) ∷ [])
    ∙ ap (λ (n : ℕ). n + 1) (window-length ws (127 * b) 127)

-- a block is the bytes of its words
cell_bytes : (ws : List ℕ) (b : ℕ) → block ws b ≡ each bytes (cell ws b)
unfolding block cell
cell_bytes ws b =
    sym (bytes_append (window ws (127 * b) 127) (check_word b (window ws (127 * b) 127) ∷ [])
    ∙ ap (λ (l : List ℕ). each bytes (window ws (127 * b) 127) ++ l) (append-nil (bytes (check_word b (window ws (127 * b) 127)))))

-- a list whose entries below k are those of f, and one more, f k: its entries below k + 1 are those of f
pub at_snoc : (l : List ℕ) (x : ℕ) (f : ℕ → ℕ) (k j : ℕ) → length l ≡ k → x ≡ f k → (j < k → at l j ≡ f j) → j < suc k
    → at (l ++ (x ∷ [])) j ≡ f j
at_snoc l x f k j e q g h = go (leb k j) refl
  where
    go : (b : Bool) → leb k j ≡ b → at (l ++ (x ∷ [])) j ≡ f j
    go true p =
        let m : k ≡ j = omega (arith, leb-true k j p) in
        get_or_at l x [] 0 j (e ∙ m) ∙ q ∙ ap f m
    go false p =
        let m = leb-false k j p in
        get_or-append l (x ∷ []) 0 j (omega arith) ∙ g m

-- word j of a window from word p on
window-at : (ws : List ℕ) (p k j : ℕ) → j < k → at (window ws p k) j ≡ at ws (p + j)
unfolding window
window-at ws p zero j h = absurd (not-suc-le-zero h)
window-at ws p (suc k) j h =
    at_snoc (window ws p k) (at ws (p + k)) (λ n. at ws (p + n)) k j (window-length ws p k) refl (λ q. window-at ws p k j q) h

-- word j of block b is index word 127 b + j
cell_word : (ws : List ℕ) (b j : ℕ) → j < 127 → at (cell ws b) j ≡ at ws (127 * b + j)
unfolding cell
cell_word ws b j h =
    get_or-append (window ws (127 * b) 127) (check_word b (window ws (127 * b) 127) ∷ []) 0 j (omega (arith, window-length ws (127 * b) 127))
    ∙ window-at ws (127 * b) 127 j h

-- word 127 of block b is its check word
cell_check : (ws : List ℕ) (b : ℕ) → at (cell ws b) 127 ≡ check_word b (window ws (127 * b) 127)
unfolding cell
cell_check ws b = get_or_at (window ws (127 * b) 127) (check_word b (window ws (127 * b) 127)) [] 0 127 (window-length ws (127 * b) 127)

-- ---- what stands in k blocks
-- byte m of block b stands 512 b bytes further on
byte_at : (ws : List ℕ) (k b m n : ℕ) → b < k → m < 512 → n ≡ 512 * b + m → at (blocks ws k) n ≡ at (block ws b) m
unfolding blocks
byte_at ws zero b m n h g e = absurd (not-suc-le-zero h)
byte_at ws (suc k) b m n h g e = go (leb k b) refl (λ q. byte_at ws k b m n q g e)
  where
    go : (t : Bool) → leb k b ≡ t → (b < k → at (blocks ws k) n ≡ at (block ws b) m)
        → at (blocks ws k ++ block ws k) n ≡ at (block ws b) m
    go true p ih =
        let q : k ≡ b = omega (arith, leb-true k b p) in
        let f : n ≡ length (blocks ws k) + m = omega (arith, blocks-length ws k) in
        ap (at (blocks ws k ++ block ws k)) f ∙ get_or-append-add (blocks ws k) (block ws k) m 0 ∙ ap (λ (a : ℕ). at (block ws a) m) q
    go false p ih =
        let q = leb-false k b p in
        get_or-append (blocks ws k) (block ws k) 0 n (omega (arith, blocks-length ws k)) ∙ ih q

module _ (ws : List ℕ) (k b : ℕ) (h : b < k) where
  -- the words of block b stand there as in the block
  word_in : (j : ℕ) → j < 128 → word_at (blocks ws k) (512 * b + 4 * j) ≡ word_at (block ws b) (4 * j)
  word_in j g =
      word_cong (blocks ws k) (block ws b) (512 * b + 4 * j) (4 * j)
      (λ d l. byte_at ws k b (4 * j + d) (512 * b + 4 * j + d) h (omega arith) (omega arith))

  -- each that fits 32 bits is read back
  cell_in : (j : ℕ) → j < 128 → at (cell ws b) j < 2 ^ 32 → word_at (blocks ws k) (512 * b + 4 * j) ≡ at (cell ws b) j
  cell_in j g l =
      word_in j g ∙ ap (λ (s : List ℕ). word_at s (4 * j)) (cell_bytes ws b) ∙ word_of (cell ws b) j (omega (arith, cell_length ws b)) l

  -- block b's check word is read back
  check-in : word_at (blocks ws k) (512 * b + 508) ≡ check_word b (window ws (127 * b) 127)
  check-in = cell_in 127 (omega arith) (rw (cell_check ws b) (check_lt b (window ws (127 * b) 127))) ∙ cell_check ws b

module _ (ws : List ℕ) (k : ℕ) (small : Below (2 ^ 32) ws) where
  -- block b's index words are read back
  held_in : (b j : ℕ) → b < k → j < 127 → word_at (blocks ws k) (512 * b + 4 * j) ≡ at ws (127 * b + j)
  held_in b j h g = cell_in ws k b h j (omega arith) (rw (cell_word ws b j g) (small (127 * b + j))) ∙ cell_word ws b j g

  -- block b's first n words are read back
  window-in : (b n : ℕ) → b < k → n ≤ 127 → words_at (blocks ws k) (512 * b) n ≡ window ws (127 * b) n
  unfolding words_at window
  window-in b zero h g = refl
  window-in b (suc n) h g = ap₂ (λ (l : List ℕ) (x : ℕ). l ++ (x ∷ [])) (window-in b n h (omega arith)) (held_in b n h g)

  -- every block is good
  pub good-in : (b : ℕ) → b < k → block_good_lem (blocks ws k) b ≡ true
  unfolding block_good_lem
  good-in b h = eq-eqb _ _ (ap (check_word b) (window-in b 127 h (omega arith)) ∙ sym (check-in ws k b h))

  -- no block is wrong
  pub none_wrong : wrong_blocks (blocks ws k) 0 k ≡ []
  none_wrong =
      keep-none (λ b. not (block_good_lem (blocks ws k) b)) (range 0 k)
      (at_every (λ b. not (block_good_lem (blocks ws k) b) ≡ false) k (λ b h. ap not (good-in b h)))

  -- index word j of the image is word j, 0 after the last
  word_back : (j : ℕ) → j < 127 * k → image_word_lem (blocks ws k) j ≡ at ws j
  unfolding image_word_lem
  word_back j h =
      let e : 4 * j + 4 * (j / 127) ≡ 512 * (j / 127) + 4 * (j % 127) = omega arith in
      let f : 127 * (j / 127) + j % 127 ≡ j = omega arith in
      ap (word_at (blocks ws k)) e ∙ held_in (j / 127) (j % 127) (omega arith) (omega arith) ∙ ap (at ws) f

  -- the first n index words are the first n words
  pub words_back : (n : ℕ) → n ≤ length ws → n ≤ 127 * k → image_words (blocks ws k) n ≡ take n ws
  unfolding image_words
  words_back zero h g = refl
  words_back (suc n) h g =
      ap₂ (λ (l : List ℕ) (x : ℕ). l ++ (x ∷ [])) (words_back n (omega arith) (omega arith)) (word_back n g) ∙ sym (take-suc ws n 0 h)

  -- the index words after the last are zero
  pub zero-back : all (λ j. eqb (image_word_lem (blocks ws k) j) 0) (range (length ws) (127 * k - length ws)) ≡ true
  zero-back =
      let zero : ℕ → Bool = λ j. eqb (image_word_lem (blocks ws k) j) 0 in
      let rest : List ℕ = range (length ws) (127 * k - length ws) in
      is_true (all zero rest) (all_of zero rest (range-every (λ j. T (zero j)) (length ws) (127 * k - length ws)
      (λ j h. eq_test _ _ (word_back (length ws + j) (omega arith) ∙ get_or-eq_default ws 0 (omega arith)))))
