-- What writing promises: 01, The image and Numbers given back. Assumes nothing.
use Rattle.std.specs.Prelude.{◌*◌, ℕ, eqb, drop, length, cond, List, ◌++◌, ◌≡◌}
use Rattle.blocks.specs.Blocks.{blocks_for_lem}
use Rattle.image.specs.Image.{image, said_write}
use Rattle.words.specs.Words.{words_of_lem}

-- writing the index at the front of w: the lent bytes before and after, the number, how many blocks
pub record Writes (w before after : List ℕ) (number blocks : ℕ) : Type 0 where
  -- 16 before 5, else 0
  pub said : number ≡ (said_write w (length before)).0
  -- the blocks that hold its words; none on a refusal
  pub counted : blocks ≡ cond (eqb number 0) (blocks_for_lem (words_of_lem w)) 0
  -- the image, and what stood after it; on a refusal all as it was
  pub lent : after ≡ cond (eqb number 0) (image w ++ drop (512 * blocks_for_lem (words_of_lem w)) before) before
