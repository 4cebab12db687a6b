-- The four bytes, weighed by their places.
use Rattle.std.proofs.Common.{rules}
use Rattle.blocks.specs.Blocks.{word_at}
use Rattle.blocks.proofs.word.get_word.Goals as goal

pub returns : goal.returns
unfolding word_at
returns c = search rules
