-- `dealing::reach_with` meets its contract: by the greatest and the least distance.
-- Assumes nothing.
use Rattle.dealing.proofs.Reaches.{reach_none, reach_some}
use Rattle.dealing.proofs.reach_with.Goals as goal

pub returns-then-g-eq0 : goal.returns-then-g-eq0
returns-then-g-eq0 c =
    reach_none c.args.index.now c.args.q c.node_radius-radius.ensures c.node_inner-inner.ensures
    c.if-g-eq0.true

pub returns : goal.returns
returns c =
    reach_some c.args.index.now c.args.q c.node_radius-radius.ensures
    c.node_inner-inner.ensures c.if-g-eq0.false
    c.node_count.ensures.0 (c.requires.in_shape.node c.args.q c.requires.q_bound.0).some c.max.ensures
    c.least_of.ensures
