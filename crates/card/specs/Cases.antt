-- The five-row index of 01 and the empty one, on a card of either edition, read over a table: one column, m = 2 and l = 2. Assumes nothing.
use Rattle.std.specs.Prelude.{ℕ, eqb, set, take, Bool, ◌&&◌, List, [], ◌∷◌}
use Rattle.blocks.specs.Blocks.{block, block_good_lem, blocks, blocks_for_lem, bytes, check_from, check_word}
use Rattle.blocks.specs.Blocks.{image_word_lem, image_words, rotate, step, window, word_at, words_at}
use Rattle.card_words.specs.Cards.{card_words_lem}
use Rattle.card_refusals.specs.Tests.{read_total, said_read_lem}
use Rattle.card.specs.Calls.{read_words}
use Rattle.image.specs.Image.{image, image_faults, image_total}
use Rattle.laws.specs.Lists.{same}
use Rattle.laws.specs.Upto.{sum_to}
use Rattle.limits.specs.Said.{number_faults}
use Rattle.measure.specs.Distance.{l1}
use Rattle.measure.specs.Table.{between, off_circle_lem}
use Rattle.refusals.specs.Refused.{circle_faults}
use Rattle.tree.specs.Cases.{five, five_words, old_words}
use Rattle.tree.specs.Widen.{widen}
use Rattle.words.specs.Index.{fit_faults}
use Rattle.words.specs.Shape.{born, level, node_ok_lem, shape_ok_lem, tile}
use Rattle.words.specs.Words.{card_ok_lem}

pub data Case : Type 0 where
  -- the image of these words, read over this table into so many words of room, is taken and gives these words
  gives : List ℕ → List ℕ → ℕ → List ℕ → Case
  -- it is refused with this number
  says : List ℕ → List ℕ → ℕ → ℕ → Case

-- a case comes out as it says
unfoldable pub right : Case → Bool
unfolding sum_to number_faults l1 between card_ok_lem born level tile node_ok_lem shape_ok_lem widen off_circle_lem circle_faults block block_good_lem blocks blocks_for_lem bytes
    check_from check_word image image_faults image_total image_word_lem image_words rotate step window word_at words_at fit_faults card_words_lem read_total read_words said_read_lem
right (gives w T room v) = let i = image w in eqb (said_read_lem T 1 i room).0 0 && same (read_words T 1 i) v
right (says w T room k) = let i = image w in eqb (said_read_lem T 1 i room).0 k

-- three rows on a circle, 3595 5 3590, in one leaf, as the one and as the other edition has them
abbrev pub seam : List ℕ
seam = 3595 ∷ 5 ∷ 3590 ∷ []

abbrev pub old_seam : List ℕ
old_seam = 1 ∷ 3 ∷ 1 ∷ 2 ∷ 4 ∷ 1 ∷ 1 ∷ 1 ∷ 0 ∷ 3 ∷ 0 ∷ 10 ∷ 0 ∷ 0 ∷ 1 ∷ 10 ∷ 2 ∷ 5 ∷ []

abbrev pub seam_words : List ℕ
seam_words = 2 ∷ 3 ∷ 1 ∷ 2 ∷ 4 ∷ 1 ∷ 1 ∷ 1 ∷ 0 ∷ 3 ∷ 0 ∷ 10 ∷ 5 ∷ 0 ∷ 0 ∷ 1 ∷ 10 ∷ 2 ∷ 5 ∷ []

-- a card of edition 1 and one of edition 2 give the same index; a room one word short gives 5; a wrong shape gives 9 with no room at all,
-- since 5 is last; a table with a row less gives 8, which comes before 9, and a header that is impossible 16, which comes before 8
abbrev pub table : List Case
table =
    gives old_words five 43 five_words
    ∷ gives five_words five 43 five_words
    ∷ gives (1 ∷ 0 ∷ 1 ∷ 2 ∷ 2 ∷ 0 ∷ 1 ∷ 0 ∷ []) [] 8 (2 ∷ 0 ∷ 1 ∷ 2 ∷ 2 ∷ 0 ∷ 1 ∷ 0 ∷ [])
    ∷ gives (2 ∷ 0 ∷ 1 ∷ 2 ∷ 2 ∷ 0 ∷ 1 ∷ 0 ∷ []) [] 8 (2 ∷ 0 ∷ 1 ∷ 2 ∷ 2 ∷ 0 ∷ 1 ∷ 0 ∷ [])
    ∷ says old_words five 42 5
    ∷ says five_words five 42 5
    ∷ says (set old_words 10 0) five 0 9
    ∷ says (set five_words 10 0) five 43 9
    ∷ says old_words (take 4 five) 43 8
    ∷ says (set old_words 10 0) (take 4 five) 0 8
    ∷ says (set old_words 6 2) (take 4 five) 0 16
    ∷ []

-- on a circle both editions give the same index, by the shorter way round; a number that does not stand on it gives 19, with no room too, but not
-- where the shape is wrong; a bit at the number of columns gives 16
abbrev pub circular : List Case
circular =
    gives old_seam seam 19 seam_words
    ∷ gives seam_words seam 19 seam_words
    ∷ says seam_words seam 18 5
    ∷ says old_seam (set seam 1 3600) 0 19
    ∷ says seam_words (set seam 1 3600) 19 19
    ∷ says (set seam_words 10 1) (set seam 1 3600) 19 9
    ∷ says (set seam_words 7 2) seam 19 16
    ∷ []
