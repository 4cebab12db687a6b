-- After b turns the index words of the first b blocks stand at the room's front.
use Rattle.std.proofs.Common.{◌≡◌, ◌*◌, ◌++◌, drop, min}
use Rattle.blocks.specs.Blocks.{image_words}
use Rattle.image.proofs.reading.get_words.Given as goal

abbrev pub invariant-loop-b : goal.invariant-loop-b
invariant-loop-b l = l.room ≡ image_words l.image (min (127 * l.b) l.t) ++ drop (min (127 * l.b) l.t) l.fn.room
