-- `growing::root` meets its contract: the entries of all rows, and the first node behind the header.
use Rattle.std.proofs.Common.{rules}
use Rattle.growing.proofs.Rooting.{root_stands}
use Rattle.growing.proofs.root.Goals as goal

pub returns : goal.returns
returns c = root_stands c.args.circles c.requires.room c.requires.le_n (search rules) c.lay-reach.ensures c.put_node.ensures
