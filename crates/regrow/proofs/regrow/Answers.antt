-- `regrow::regrow` meets its contract: the root's node, and the levels below it.
-- Assumes nothing.
use Rattle.regrow.proofs.Planting.{planted, regrown-all}
use Rattle.regrow.proofs.regrow.Goals as goal

pub levels-requires : goal.levels-requires
levels-requires c =
    planted c.requires c.copied_node.ensures

pub returns : goal.returns
returns c =
    λ g. regrown-all g c.copied_node.ensures c.levels.ensures
