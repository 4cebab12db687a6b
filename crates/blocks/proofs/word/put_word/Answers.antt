-- The four bytes, copied to the front, are the word's.
use Rattle.std.proofs.Common.{rules}
use Rattle.blocks.specs.Blocks.{bytes}
use Rattle.blocks.proofs.word.put_word.Goals as goal

pub returns : goal.returns
unfolding bytes
returns c = search rules
