-- After i turns the check has gone over the first i words of the block.
use Rattle.std.proofs.Common.{◌≡◌, ◌*◌}
use Rattle.blocks.specs.Blocks.{check_from, words_at}
use Rattle.blocks.proofs.check.block_check.Given as goal

abbrev pub invariant-loop-i : goal.invariant-loop-i
invariant-loop-i l = l.check ≡ check_from l.initial.check (words_at l.image (512 * l.b) l.i)
