-- A node's number and a position fit in 32 bits.
use Rattle.bourascul.proofs.bourascul_check.Goals as goal
use Rattle.audit.proofs.Theorems.{check-small}
use native.Mathlib.Omega.{arith}

pub overflow_cast-result : goal.overflow_cast-result
overflow_cast-result c = omega (arith, c.place.ensures, (check-small c.in-Err.ensures).0)

pub overflow_cast-result-in-Err : goal.overflow_cast-result-in-Err
overflow_cast-result-in-Err c = omega (arith, c.second.ensures, (check-small c.in-Err.ensures).1)
