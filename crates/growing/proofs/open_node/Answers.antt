-- `growing::open_node` meets its contract: a node of at most l rows is left; any other is split where it stands.
use Rattle.std.proofs.Common.{rules}
use Rattle.growing.proofs.Splits.{open_done}
use Rattle.growing.proofs.open_node.Goals as goal

pub returns : goal.returns
returns c = open_done c.requires c.word-s.ensures.0 c.word-count.ensures.0 (search rules) c.split_run.ensures
