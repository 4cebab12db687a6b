-- After i turns the first i words of the block stand at the part's front.
use Rattle.std.proofs.Common.{◌≡◌, ◌*◌, ◌++◌, drop}
use Rattle.blocks.specs.Blocks.{words_at}
use Rattle.image.proofs.reading.get_block.Given as goal

abbrev pub invariant-loop-i : goal.invariant-loop-i
invariant-loop-i l = l.part ≡ words_at l.image (512 * l.b) l.i ++ drop l.i l.fn.part
