-- An index on a card, in the bytes of its image: 02, R-11. Assumes nothing.
use Rattle.std.specs.Prelude.{◌*◌, ◌/◌, ◌≤◌, ℕ, length, true, List, ◌≡◌}
use Rattle.blocks.specs.Blocks.{blocks_for_lem, image_words}
use Rattle.image.specs.Image.{image_total}
use Rattle.words.specs.InShape.{Whole}
use Rattle.words.specs.Words.{card_ok_lem, header_words}

-- the index words that a card holds, of either edition
unfoldable pub card_words_lem : List ℕ → List ℕ
card_words_lem i = image_words i (image_total i)

-- past 14 to 17: the card's header is possible, and it has the blocks that the header asks for
pub record Carded (i : List ℕ) : Type 0 where
  pub header : card_ok_lem (image_words i header_words) ≡ true
  pub blocks : length i / 512 ≡ blocks_for_lem (image_total i)

-- its index words are whole, and stand in its blocks
pub record Held (i : List ℕ) : Type 0 where
  pub whole : Whole (card_words_lem i)
  pub inside : length (card_words_lem i) ≤ 127 * (length i / 512)
