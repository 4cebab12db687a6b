-- The image of an index, and what is wrong with one: 01, The image and Numbers given back. Assumes nothing.
use Rattle.std.specs.Prelude.{◌%◌, ◌*◌, ◌-◌, ◌/◌, ℕ, eqb, ltb, length, take, ◌||◌, not, List, ◌++◌, map}
use Rattle.blocks.specs.Blocks.{block_good_lem, blocks, blocks_for_lem, image_word_lem, image_words}
use Rattle.laws.specs.Lists.{all, keep, range}
use Rattle.limits.specs.Said.{Said, fault, said}
use Rattle.words.specs.Words.{card_ok_lem, header_words, words_of_lem, words_ok_lem}

-- the image of the index at the front of w
unfoldable pub image : List ℕ → List ℕ
image w = blocks (take (words_of_lem w) w) (blocks_for_lem (words_of_lem w))

-- 16 comes before 5
unfoldable pub said_write : List ℕ → ℕ → Said
said_write w room = said (fault 16 (not (words_ok_lem w)) ++ fault 5 (ltb room (512 * blocks_for_lem (words_of_lem w))))

-- how many words its header asks for
unfoldable pub image_total : List ℕ → ℕ
image_total i = words_of_lem (image_words i header_words)

-- 14, 15 with the lowest block, 16, 17
unfoldable pub image_faults : List ℕ → List Said
image_faults i =
    let n = length i / 512 in
    fault 14 (eqb (length i) 0 || not (eqb (length i % 512) 0)) ++ map (λ b. (15, b, 0)) (keep (λ b. not (block_good_lem i b)) (range 0 n))
    ++ fault 16 (not (card_ok_lem (image_words i header_words)) || not (eqb n (blocks_for_lem (image_total i))))
    ++ fault 17 (not (all (λ j. eqb (image_word_lem i j) 0) (range (image_total i) (127 * n - image_total i))))
