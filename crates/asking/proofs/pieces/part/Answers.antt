-- Both ends are inside the text.
use Rattle.asking.specs.Pieces.{part_of}
use Rattle.asking.proofs.pieces.part.Goals as goal

pub returns : goal.returns
unfolding part_of
returns c = cc
