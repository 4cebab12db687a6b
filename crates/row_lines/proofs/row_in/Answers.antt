-- `row_lines::row_in`: no number, a row, or a number of none.
use Rattle.row_lines.proofs.Places.{row-beyond, row-none, row-right}
use Rattle.row_lines.proofs.row_in.Goals as goal
use Rattle.std.proofs.Common.{arith}

pub returns-in_default-clause-trouble : goal.returns-in_default-clause-trouble
returns-in_default-clause-trouble c = row-none _ _ (omega (arith, c.in_default.ensures))

pub returns-then-row-n-clause-trouble : goal.returns-then-row-n-clause-trouble
returns-then-row-n-clause-trouble c = row-right _ _ (omega (arith, c.in-Some.ensures)) (omega (arith, c.in-Some.ensures))

pub returns-else-row-n-clause-trouble : goal.returns-else-row-n-clause-trouble
returns-else-row-n-clause-trouble c = row-beyond _ _ (omega (arith, c.in-Some.ensures)) (omega (arith, c.in-Some.ensures))
