-- What is written has no fault, and its words are the index's. Assumes nothing.
use Prim.Native.Nat.{◌*◌, ◌-◌, ◌/◌, ◌<◌, ◌^◌, ◌≤◌, ℕ}
use Rattle.blocks.proofs.Places.{blocks_hold}
use Rattle.blocks.specs.Blocks.{blocks, blocks_for_lem, image_word_lem, image_words}
use Rattle.blocks.specs.Lowest.{wrong_blocks}
use Rattle.image.proofs.Blocks.{blocks-length}
use Rattle.image.proofs.Refusals.{by-held, none-held}
use Rattle.image.proofs.Standing.{none_wrong, words_back, zero-back}
use Rattle.image.specs.Below.{Below}
use Rattle.image.specs.Calls.{Writes}
use Rattle.image.specs.Image.{image, image_faults, image_total, said_write}
use Rattle.image.specs.Sound.{rest_zero_lem}
use Rattle.laws.specs.Lists.{all, range}
use Rattle.limits.specs.Said.{fault, said}
use Rattle.words.proofs.Headers.{words-whole}
use Rattle.words.proofs.InShape.{header_possible, whole}
use Rattle.words.specs.Words.{at, card_ok_lem, words_of_lem, words_ok_lem}
use borrow.Author.Tests.{leb-false, leb-true}
use lib.Dec.{eqb, leb, lit<, ltb}
use lib.ListN.{get_or-eq_default, drop, length, length-take, take}
use lib.Seq.{get_or-take, length-take-le, take_all, take_at, take-take}
use mathlib.Core.Bool.{Bool, false, not, true}
use mathlib.Core.List.{List, [], ◌++◌}
use mathlib.Core.Path.{◌∙◌, ◌≡◌, ap, ap₂, refl, sym}
use native.Mathlib.Omega.{arith}

-- ---- the header
-- the header test looks at the first eight words only
pub header_take : (w : List ℕ) → card_ok_lem (take 8 w) ≡ card_ok_lem w
unfolding card_ok_lem
header_take w =
    let f : (j : ℕ) → j < 8 → at (take 8 w) j ≡ at w j = λ j h. get_or-take 8 w j 0 h in
    rw (f 0 (lit< tt), f 1 (lit< tt), f 2 (lit< tt), f 3 (lit< tt), f 4 (lit< tt), f 5 (lit< tt), f 6 (lit< tt), f 7 (lit< tt))

-- the number of words that a header asks for is told by the first eight words
pub total_take : (w : List ℕ) → words_of_lem (take 8 w) ≡ words_of_lem w
total_take w = rw (get_or-take 8 w 0 0 (lit< tt), get_or-take 8 w 1 0 (lit< tt), get_or-take 8 w 5 0 (lit< tt))

-- the first entries of words are words
below-take : (n k : ℕ) (l : List ℕ) → 1 ≤ k → Below k l → Below k (take n l)
below-take n k l one h p = go (leb n p) refl
  where
    go : (b : Bool) → leb n p ≡ b → at (take n l) p < k
    go true q = rw (get_or-eq_default (take n l) 0 {n = p} (omega (arith, length-take n l, leb-true n p q))) one
    go false q = rw (get_or-take n l p 0 (leb-false n p q)) (h p)

-- ---- the image of an index
module _ (w : List ℕ) (ok : words_ok_lem w ≡ true) (small : Below (2 ^ 32) w) where
  -- how many words the index has
  abbrev t : ℕ
  t = words_of_lem w

  -- its words
  abbrev pub ws : List ℕ
  ws = take (words_of_lem w) w

  -- how many blocks hold them
  abbrev pub k : ℕ
  k = blocks_for_lem (words_of_lem w)

  -- none of them is missing
  long : length ws ≡ t
  long = length-take-le t w (whole w (words-whole w ok).1).words

  -- each of them fits 32 bits
  pub low : Below (2 ^ 32) ws
  low = below-take t (2 ^ 32) w (omega arith) small

  -- the blocks have places for them
  fits : t ≤ 127 * k
  fits = blocks_hold t k refl

  -- there is a block
  some : 1 ≤ k
  unfolding blocks_for_lem
  some = omega arith

  -- the image is these blocks
  pub image-is : image w ≡ blocks ws k
  unfolding image
  image-is = refl

  -- its length in bytes
  image-size : length (image w) ≡ 512 * k
  image-size = ap length image-is ∙ blocks-length ws k

  -- its length in blocks
  size-blocks : length (image w) / 512 ≡ k
  size-blocks = omega (arith, image-size)

  -- its header is the index's
  heads : image_words (image w) 8 ≡ take 8 w
  heads =
      ap (λ i. image_words i 8) image-is ∙ words_back ws k low 8 (omega (arith, long)) (omega (arith, fits)) ∙ take-take 8 t w (omega arith)

  -- its header asks for as many words as the index has
  total-is : image_total (image w) ≡ t
  unfolding image_total
  total-is = ap words_of_lem heads ∙ total_take w

  -- the words after the last are zero
  rest-is : rest_zero_lem (image w) (image_total (image w)) ≡ true
  rest-is =
      ap₂ (λ a b. all (λ j. eqb (image_word_lem (image w) j) 0) (range a (127 * b - a))) (total-is ∙ sym long) size-blocks
      ∙ ap (λ i. all (λ j. eqb (image_word_lem i j) 0) (range (length ws) (127 * k - length ws))) image-is ∙ zero-back ws k low

  -- THE IMAGE OF AN INDEX HAS NO FAULT
  pub image-sound : image_faults (image w) ≡ []
  image-sound =
      let l = image-size in
      by-held (image w) (λ e. omega (arith, some)) (omega arith) (ap₂ (λ i n. wrong_blocks i 0 n) image-is size-blocks ∙ none_wrong ws k low)
      ∙ none-held (image w) (ap card_ok_lem heads ∙ header_take w ∙ header_possible w (words-whole w ok).1) (size-blocks ∙ ap blocks_for_lem (sym total-is)) rest-is

  -- AND ITS WORDS ARE THE INDEX'S
  pub image-words : image_words (image w) (image_total (image w)) ≡ take (words_of_lem w) w
  image-words =
      ap₂ image_words image-is total-is ∙ words_back ws k low t (omega (arith, long)) fits ∙ take_all t ws (omega (arith, long))

-- ---- as calls
-- over the two tests of writing: 0 says that the first passed
wrote : (a s : Bool) → (said (fault 16 (not a) ++ fault 5 s)).0 ≡ 0 → a ≡ true
wrote true s e = refl
wrote false s e = absurd (omega arith)

-- a write that gives 0 had an index
pub written_ok : (w : List ℕ) (room : ℕ) → (said_write w room).0 ≡ 0 → words_ok_lem w ≡ true
unfolding said_write
written_ok w room e = wrote (words_ok_lem w) (ltb room (512 * blocks_for_lem (words_of_lem w))) e

-- THE BLOCKS THAT A WRITE LEFT ARE THE INDEX'S IMAGE
pub written-image : {w before after : List ℕ} {blocks : ℕ} → Below (2 ^ 32) w → Writes w before after 0 blocks → take (512 * blocks) after ≡ image w
written-image {w} {before} small x =
    ap₂ (λ (n : ℕ) (l : List ℕ). take (512 * n) l) x.counted x.lent
    ∙ take_at (image w) (drop (512 * blocks_for_lem (words_of_lem w)) before) (512 * blocks_for_lem (words_of_lem w))
    (image-size w (written_ok w (length before) (sym x.said)) small)
