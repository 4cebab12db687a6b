-- After b turns the first b blocks stand at the image's front.
use Rattle.std.proofs.Common.{◌≡◌, ◌*◌, ◌++◌, drop}
use Rattle.blocks.specs.Blocks.{blocks}
use Rattle.image.proofs.writing.put_blocks.Given as goal

abbrev pub invariant-loop-b : goal.invariant-loop-b
invariant-loop-b l = l.image ≡ blocks l.index l.b ++ drop (512 * l.b) l.fn.image
