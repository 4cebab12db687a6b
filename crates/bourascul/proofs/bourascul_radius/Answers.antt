-- The counts are no more than the rows.
use Rattle.bourascul.proofs.bourascul_radius.Goals as goal
use Rattle.radius.proofs.Promises.{radius_small}
use native.Mathlib.Omega.{arith}

pub overflow_cast-result : goal.overflow_cast-result
overflow_cast-result c = let small = radius_small c.in-Ok.ensures in omega (arith, small.0, small.1)

pub overflow_cast-result-in-Ok : goal.overflow_cast-result-in-Ok
overflow_cast-result-in-Ok c = let small = radius_small c.in-Ok.ensures in omega (arith, small.0, small.1)
