-- `circular_columns::column_off` meets its contract: row i holds one number more of the column.
use Rattle.std.proofs.Common.{refl}
use Rattle.circular_columns.proofs.column_off.Goals as goal
use Rattle.measure.proofs.OnCircle.{column_next}

pub loop-i-preserved : goal.loop-i-preserved
loop-i-preserved c = column_next c.args.table.now c.args.c c.args.j c.loop-i.i _ c.loop-i.off c.loop-i.invariant refl
