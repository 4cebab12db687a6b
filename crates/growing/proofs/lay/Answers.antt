-- `growing::lay` meets its contract: one row more is laid (`Laying`).
use Rattle.std.proofs.Common.{rules, arith}
use Rattle.growing.proofs.Laying.{laying_start, laying-step}
use Rattle.growing.proofs.lay.Goals as goal
use Rattle.measure.proofs.Metric.{row_self}
use Rattle.measure.specs.Table.{between}

pub loop-i-init : goal.loop-i-init
loop-i-init c =
    let a = c.args in
    laying_start (between a.table.now a.c a.circles) a.n a.work.now

pub loop-i-preserved : goal.loop-i-preserved
loop-i-preserved c =
    let a = c.args in
    laying-step c.loop-i.invariant (row_self a.table.now a.c a.circles 0) (omega arith) (search rules) c.row_distance-d.ensures.0
    c.max-radius.ensures c.least_of-inner.ensures
    c.put_entry.ensures (search rules)
