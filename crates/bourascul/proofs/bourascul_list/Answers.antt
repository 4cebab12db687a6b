-- A part of an index fits in 32 bits.
use Rattle.bourascul.proofs.bourascul_list.Goals as goal
use Rattle.listing.proofs.Listed.{part_small}
use native.Mathlib.Omega.{arith}

pub overflow_cast-result : goal.overflow_cast-result
overflow_cast-result c = omega (arith, (part_small c.in-Some.ensures.part).0)

pub overflow_cast-result-in-Some : goal.overflow_cast-result-in-Some
overflow_cast-result-in-Some c = omega (arith, (part_small c.in-Some.ensures.part).1)
