-- `rebuild::rebuild` meets its contract: the build is asked for with what the header says.
use Rattle.rebuild.proofs.Alike.{alike}
use Rattle.rebuild.proofs.rebuild.Goals as goal

pub returns : goal.returns
returns c = alike c.args.index.now c.centres.ensures.0 c.leaf_size.ensures.0 c.circles.ensures c.build.ensures
