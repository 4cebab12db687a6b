-- `fates::settle` meets its contract: what `fate_of` requires of the node's radius. Assumes nothing.
use Rattle.std.proofs.Common.{arith}
use Rattle.fates.proofs.settle.Goals as goal

pub fate_of-fate-requires : goal.fate_of-fate-requires
fate_of-fate-requires c =
    (c.requires.k_bound.2, omega (arith, (c.requires.in_shape.node c.args.k c.requires.k_bound.0).near, c.node_radius.ensures))
