-- `rows_measured::measure_centres` meets its contract: each round measures one centre.
use Rattle.std.proofs.Common.{arith}
use Rattle.nearest_steps.proofs.Growing.{centres-done, centres-step, centres_start}
use Rattle.nearest_steps.proofs.Staying.{centres-by}
use Rattle.rows_measured.proofs.measure_centres.Goals as goal

pub loop-j-init : goal.loop-j-init
loop-j-init c =
    let pre = c.requires in
    (centres_start _ _ _ _ _ _ _ _ _ _ _ (omega arith) pre.in_shape.2 pre.ready.stands, pre.in_shape.4)

pub loop-j-preserved : goal.loop-j-preserved
loop-j-preserved c =
    let measured = c.measure_centre-seen.ensures in (
      centres-step _ _ _ _ _ _ _ _ _ _ _ _ _ _ _ _ _ _ c.loop-j.invariant.0 (omega (arith, c.loop-j-test.true)) c.node_first-r.ensures.0
          (centres-by _ _ _ c.args.index.now _ _ _ _ _ _ _ _ _ _ _ c.circles-o.ensures measured.0),
      measured.1,
    )

pub returns : goal.returns
returns c = (centres-done _ _ _ _ _ _ _ _ _ _ _ _ _ _ (omega arith) c.loop-j.invariant.0, c.loop-j.invariant.1)
