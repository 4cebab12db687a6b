-- The word at index word j's place.
use Rattle.std.proofs.Common.{rules}
use Rattle.blocks.specs.Blocks.{image_word_lem}
use Rattle.blocks.proofs.word.image_word.Goals as goal

pub returns : goal.returns
unfolding image_word_lem
returns c = search rules
