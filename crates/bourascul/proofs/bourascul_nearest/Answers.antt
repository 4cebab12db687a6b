-- The counts are no more than the rows.
use Rattle.bourascul.proofs.bourascul_nearest.Goals as goal
use Rattle.nearest.proofs.Promises.{nearest_small}
use native.Mathlib.Omega.{arith}

pub near_for_c-requires : goal.near_for_c-requires
near_for_c-requires c =
    let small = nearest_small c.nearest.ensures in
    (omega (arith, small.0), omega (arith, small.1))
