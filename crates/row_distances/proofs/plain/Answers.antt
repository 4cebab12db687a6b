-- The distance over no column is 0, from which each sum begins.
use Rattle.std.proofs.Common.{arith}
use Rattle.measure.proofs.Rows.{l1-none}
use Rattle.row_distances.proofs.plain.Goals as goal

pub columns-four-requires-clause-from_le_c : goal.columns-four-requires-clause-from_le_c
columns-four-requires-clause-from_le_c c = grind (arith, l1-none)

pub columns-requires-2-clause-from_le_c : goal.columns-requires-2-clause-from_le_c
columns-requires-2-clause-from_le_c c = grind (arith, l1-none)
