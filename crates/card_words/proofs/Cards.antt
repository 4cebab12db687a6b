-- The index words that a card holds: each is the image's, their header is the image's, and they are whole. Assumes nothing.
use Prim.Native.Nat.{◌%◌, ◌/◌, ◌<◌, ◌≤◌, suc, zero, ℕ}
use Rattle.blocks.proofs.Places.{blocks_hold, image-length}
use Rattle.blocks.specs.Blocks.{blocks_for_lem, image_word_lem, image_words}
use Rattle.blocks.specs.Lowest.{wrong_blocks}
use Rattle.card_words.specs.Cards.{Carded, Held, card_words_lem}
use Rattle.image.proofs.RoundTrip.{header_take, total_take}
use Rattle.image.proofs.Standing.{at_snoc}
use Rattle.image.specs.Image.{image_faults, image_total}
use Rattle.image.specs.Sound.{rest_zero_lem}
use Rattle.limits.specs.Said.{fault, said}
use Rattle.words.proofs.Headers.{good-whole}
use Rattle.words.proofs.InShape.{whole}
use Rattle.words.proofs.Strides.{words-few}
use Rattle.words.specs.Words.{n#, pair_at, at, card_ok_lem, words_of_lem, whole_ok}
use borrow.Author.Tests.{eqb-true, le-leb}
use lib.Dec.{eqb}
use lib.ListN.{length, take}
use lib.Seq.{ext_get_or, get_or-take, length-take-le}
use mathlib.Core.Bool.{Bool, ◌||◌, false, not, true}
use mathlib.Core.List.{List, [], ◌++◌, ◌∷◌, map}
use mathlib.Core.Path.{◌∙◌, ◌≡◌, ap, refl, sym}
use native.Mathlib.Nat.{not-suc-le-zero}
use native.Mathlib.Omega.{arith}

-- ---- the words of an image
-- each of the first k index words is the image's
word_is_lem : (i : List ℕ) (k j : ℕ) → j < k → at (image_words i k) j ≡ image_word_lem i j
unfolding image_words
word_is_lem i zero j h = absurd (not-suc-le-zero h)
word_is_lem i (suc k) j h = at_snoc (image_words i k) (image_word_lem i k) (image_word_lem i) k j (image-length i k) refl (λ q. word_is_lem i k j q) h

-- the first k of t index words
front_is : (i : List ℕ) (k t : ℕ) → k ≤ t → take k (image_words i t) ≡ image_words i k
front_is i k t h =
    let e : length (take k (image_words i t)) ≡ k = length-take-le k (image_words i t) (omega (arith, image-length i t)) in
    ext_get_or 0 (take k (image_words i t)) (image_words i k) (e ∙ sym (image-length i k))
    (λ j l.
    let q : j < k = omega (arith, e) in
    get_or-take k (image_words i t) j 0 q ∙ word_is_lem i t j (omega arith) ∙ sym (word_is_lem i k j q))

-- ---- the faults of an image
-- WITH 0 AN IMAGE'S HEADER AND BLOCKS ARE RIGHT
pub carded : (i : List ℕ) → (said (image_faults i)).0 ≡ 0 → Carded i
unfolding image_faults
carded i e =
    let h = card_ok_lem (image_words i 8) in
    let k = eqb (length i / 512) (blocks_for_lem (image_total i)) in
    let r = go (eqb (length i) 0 || not (eqb (length i % 512) 0)) (wrong_blocks i 0 (length i / 512)) h k (rest_zero_lem i (image_total i)) e in
    record { header = r.0; blocks = eqb-true (length i / 512) (blocks_for_lem (image_total i)) r.1 }
  where
    -- by the tests and the wrong blocks
    go : (a : Bool) (bs : List ℕ) (h k z : Bool)
        → (said (fault 14 a ++ map (λ b. (15, b, 0)) bs ++ fault 16 (not h || not k) ++ fault 17 (not z))).0 ≡ 0 → (h ≡ true) × (k ≡ true)
    go true bs h k z e = absurd (omega arith)
    go false (b ∷ bs) h k z e = absurd (omega arith)
    go false [] true true z e = (refl, refl)
    go false [] true false z e = absurd (omega arith)
    go false [] false k z e = absurd (omega arith)

-- ---- the words of a card
module _ (i : List ℕ) where
  -- they are as many as the header asks for
  pub card-long : length (card_words_lem i) ≡ image_total i
  unfolding card_words_lem
  card-long = image-length i (image_total i)

  -- EACH IS THE IMAGE'S
  pub card-at : (j : ℕ) → j < length (card_words_lem i) → image_word_lem i j ≡ at (card_words_lem i) j
  unfolding card_words_lem
  card-at j h = sym (word_is_lem i (image_total i) j (omega (arith, card-long)))

  -- THEIR HEADER IS THE IMAGE'S
  pub card-header : take 8 (card_words_lem i) ≡ image_words i 8
  unfolding card_words_lem image_total
  card-header = front_is i 8 (image_total i) (omega arith)

  -- it asks for as many words as there are
  pub card-total : words_of_lem (card_words_lem i) ≡ length (card_words_lem i)
  unfolding image_total
  card-total = sym (total_take (card_words_lem i)) ∙ ap words_of_lem card-header ∙ sym card-long

  -- under a possible header no word is missing
  pub card-words : card_ok_lem (image_words i 8) ≡ true → whole_ok (card_words_lem i) ≡ true
  card-words e =
      sym (good-whole (card_words_lem i) (omega (arith, card-total)) (sym (header_take (card_words_lem i)) ∙ ap card_ok_lem card-header ∙ e))
      ∙ le-leb (words_of_lem (card_words_lem i)) (length (card_words_lem i)) (omega (arith, card-total))

  -- WHAT IS KNOWN OF A CARD WHOSE HEADER AND BLOCKS ARE RIGHT
  pub card-held : Carded i → Held i
  card-held C =
      record {
        whole = whole (card_words_lem i) (card-words C.header);
        inside = omega (arith, card-long, blocks_hold (image_total i) (length i / 512) (sym C.blocks));
      }

-- a card has few words
pub few : (i : List ℕ) → Held i → pair_at (card_words_lem i) (n# (card_words_lem i)) < 4294967296
few i H = omega (arith, words-few (card_words_lem i) H.whole, H.whole.rows)
