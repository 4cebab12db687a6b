-- The blocks of an image fit in 32 bits.
use Rattle.bourascul.proofs.bourascul_write.Goals as goal
use Rattle.image.proofs.Small.{write_small}
use native.Mathlib.Omega.{arith}

pub overflow_cast-result : goal.overflow_cast-result
overflow_cast-result c = omega (arith, write_small c.in-Ok.ensures)
