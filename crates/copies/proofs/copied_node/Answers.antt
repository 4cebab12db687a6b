-- `copies::copied_node` meets its contract: the five words are written behind the nodes that are there.
-- Assumes nothing.
use Rattle.copies.proofs.Copies.{copied_one}
use Rattle.copies.proofs.copied_node.Goals as goal

pub returns : goal.returns
returns c =
    copied_one _ _ _ _ _ _ _ c.requires.o_bound.2 c.start_of-start.ensures.0 c.count_of-count.ensures.0 c.child_of-child.ensures.0 c.reach_of-reach.ensures
    c.put_node.ensures
