-- What reading finds before it looks at the room: 01, Numbers given back, 14 to 17. A working notion, on which no promise rests. Assumes nothing.
use Rattle.std.specs.Prelude.{◌*◌, ◌-◌, ◌/◌, ℕ, eqb, length, Bool, ◌||◌, cond, not, List, ◌++◌, ◌≡◌}
use Rattle.blocks.specs.Blocks.{blocks_for_lem, image_word_lem, image_words}
use Rattle.image.specs.Image.{image_total}
use Rattle.laws.specs.Lists.{all, range}
use Rattle.limits.specs.Said.{Said, fault, said}
use Rattle.words.specs.Words.{card_ok_lem, header_words}

-- 17: the index words after the last are zero
abbrev pub rest_zero_lem : List ℕ → ℕ → Bool
rest_zero_lem i t = all (λ j. eqb (image_word_lem i j) 0) (range t (127 * (length i / 512) - t))

-- 16 and 17 as faults: what is wrong with the words that the blocks hold
abbrev pub held_faults : List ℕ → List Said
held_faults i =
    fault 16 (not (card_ok_lem (image_words i header_words)) || not (eqb (length i / 512) (blocks_for_lem (image_total i))))
    ++ fault 17 (not (rest_zero_lem i (image_total i)))

-- of these faults the first, and with none how many words the index has
pub record Sound (i : List ℕ) (faults : List Said) (number place words : ℕ) : Type 0 where
  pub found : number ≡ (said faults).0
  pub placed : place ≡ (said faults).1
  pub counted : words ≡ cond (eqb number 0) (image_total i) 0
