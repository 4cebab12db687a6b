-- The words fit in 32 bits.
use Rattle.bourascul.proofs.bourascul_read.Goals as goal
use Rattle.card.proofs.Theorems.{read_small}
use native.Mathlib.Omega.{arith}

pub overflow_cast-result : goal.overflow_cast-result
overflow_cast-result c = omega (arith, read_small c.in-Ok.ensures)
