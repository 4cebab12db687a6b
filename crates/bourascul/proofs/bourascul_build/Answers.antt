-- The counts of an index fit in 32 bits.
use Rattle.bourascul.proofs.bourascul_build.Goals as goal
use Rattle.build.proofs.Small.{build_small}
use native.Mathlib.Omega.{arith}

pub built_for_c-requires : goal.built_for_c-requires
built_for_c-requires c =
    let small = build_small c.build.ensures in
    (omega (arith, small.0), omega (arith, small.1))
