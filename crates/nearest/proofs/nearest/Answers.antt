-- `nearest::nearest` meets its contract: there is room for as many answers as both rows and distances have.
use Rattle.std.proofs.Common.{arith}
use Rattle.nearest.proofs.Contract.{room_is}
use Rattle.nearest.proofs.nearest.Goals as goal

pub returns : goal.returns
returns c = room_is (omega arith) c.within.ensures
