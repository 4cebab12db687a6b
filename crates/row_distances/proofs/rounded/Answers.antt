-- The distance over no column is 0, from which each sum begins.
use Rattle.std.proofs.Common.{arith}
use Rattle.measure.proofs.Rows.{l1-none}
use Rattle.row_distances.proofs.rounded.Goals as goal

pub round_columns-requires-clause-from_le_c : goal.round_columns-requires-clause-from_le_c
round_columns-requires-clause-from_le_c c = grind (arith, l1-none)

pub round_columns-requires-2-clause-from_le_c : goal.round_columns-requires-2-clause-from_le_c
round_columns-requires-2-clause-from_le_c c = grind (arith, l1-none)
