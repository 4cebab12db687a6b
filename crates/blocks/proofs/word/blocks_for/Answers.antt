-- The quotient, rounded up: small since t is.
use Rattle.std.proofs.Common.{rules}
use Rattle.blocks.specs.Blocks.{blocks_for_lem}
use Rattle.blocks.proofs.word.blocks_for.Goals as goal

pub returns : goal.returns
unfolding blocks_for_lem
returns c = search rules
