-- `text_lines::next_line`: behind the newline, or at the end.
use Rattle.std.proofs.Common.{arith}
use Rattle.text_lines.proofs.Lines.{next-behind, next-none}
use Rattle.text_lines.proofs.next_line.Goals as goal

pub returns-then-end-t : goal.returns-then-end-t
returns-then-end-t c = (next-behind _ _ _ c.end_from-end.ensures.0 c.if-end-t.true, omega (arith, c.end_from-end.ensures), omega (arith, c.if-end-t.true))

pub returns-else-end-t : goal.returns-else-end-t
returns-else-end-t c = (next-none _ _ _ c.end_from-end.ensures.0 c.if-end-t.false, c.end_from-end.ensures.1, c.end_from-end.ensures.2)
