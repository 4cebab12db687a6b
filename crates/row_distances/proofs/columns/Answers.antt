-- One column more adds what the two rows differ in it.
use Rattle.std.proofs.Common.{arith}
use Rattle.measure.proofs.Rows.{l1-next-plain}
use Rattle.row_distances.proofs.columns.Goals as goal

pub loop-i-preserved : goal.loop-i-preserved
loop-i-preserved c = grind (arith, l1-next-plain c.args.a.now c.args.b.now c.loop-i.i)
