-- The check that the block's words have, against the word behind them.
use Rattle.std.proofs.Common.{eqb, ap₂}
use Rattle.blocks.specs.Blocks.{block_good_lem}
use Rattle.blocks.proofs.check.block_good.Goals as goal

pub returns : goal.returns
unfolding block_good_lem
returns c = ap₂ eqb c.block_check.ensures c.get_word.ensures
