-- `ceilings::many_to` meets its contract: the sum over eight columns is the distance over these, and it only grows.
use Rattle.std.proofs.Common.{arith, length}
use Rattle.measure.proofs.Capped.{too_far}
use Rattle.measure.proofs.Rows.{l1-none}
use Rattle.ceilings.proofs.many_to.Goals as goal

pub columns-eight-requires-clause-from_le_c : goal.columns-eight-requires-clause-from_le_c
columns-eight-requires-clause-from_le_c c = grind (arith, l1-none)

pub returns-then-over-eight : goal.returns-then-over-eight
returns-then-over-eight c =
    let a = c.args in
    too_far 0 a.a.now a.b.now 8 (length a.a.now) _ _ _ c.one_over-over.ensures c.columns-eight.ensures.0 (omega arith) (omega arith)
