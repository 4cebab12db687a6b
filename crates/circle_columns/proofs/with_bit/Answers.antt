-- `circle_columns::with_bit`: the bit is put on, or not.
use Rattle.circle_columns.proofs.Gathering.{bit_off, bit_on}
use Rattle.circle_columns.proofs.with_bit.Goals as goal
use Rattle.std.proofs.Common.{arith}

pub returns-then-on : goal.returns-then-on
returns-then-on c = let a = c.args in bit_on a.set a.j c.if-on.true (omega arith)

pub returns-else-on : goal.returns-else-on
returns-else-on c = bit_off _ _ c.if-on.false
