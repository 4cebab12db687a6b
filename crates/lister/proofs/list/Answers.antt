-- What the build counts stands in the room.
use Rattle.lister.proofs.Index.{built_there}
use Rattle.lister.proofs.list.Goals as goal
use Rattle.std.proofs.Common.{refl}

pub print_index-requires : goal.print_index-requires
print_index-requires c = built_there _ _ _ _ _ _ _ _ _ _ _ _ c.in_ok-built.ensures refl
