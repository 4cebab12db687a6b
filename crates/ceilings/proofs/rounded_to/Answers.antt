-- `ceilings::rounded_to` meets its contract: the sum over eight columns is the distance over these, and it only grows.
use Rattle.std.proofs.Common.{arith, length}
use Rattle.measure.proofs.Capped.{too_far}
use Rattle.measure.proofs.Rows.{l1-none}
use Rattle.ceilings.proofs.rounded_to.Goals as goal

pub round_columns-eight-requires-clause-from_le_c : goal.round_columns-eight-requires-clause-from_le_c
round_columns-eight-requires-clause-from_le_c c = grind (arith, l1-none)

pub returns-then-over-eight : goal.returns-then-over-eight
returns-then-over-eight c =
    let a = c.args in
    too_far a.circles a.a.now a.b.now 8 (length a.a.now) _ _ _ c.one_over-over.ensures c.round_columns-eight.ensures.0 (omega arith) (omega arith)
