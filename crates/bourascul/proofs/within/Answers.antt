-- Both counts are at most 1,048,576, so they fit in 32 bits.
use Rattle.bourascul.proofs.within.Goals as goal
use Rattle.nearest.proofs.Promises.{nearest_small}
use native.Mathlib.Omega.{arith}

pub near_for_c-requires : goal.near_for_c-requires
near_for_c-requires c =
    let small = nearest_small c.within.ensures in
    (omega (arith, small.0), omega (arith, small.1))
