-- the greater and the lesser of what was found and of the rest are those of all
use Rattle.measure.proofs.Metric.{row_self}
use Rattle.measure.specs.Table.{between}
use Rattle.reach.proofs.Farthest.{reach-next, reach-one, reach-two}
use Rattle.reach.proofs.reaches.Goals as goal
use Rattle.std.proofs.Common.{arith}
use Rattle.words.specs.Words.{circles#}

pub returns-then-end-second : goal.returns-then-end-second
returns-then-end-second c =
    let o = circles# c.args.index.now in
    reach-one (between c.args.table.now c.args.c o) c.args.index.now c.args.k (row_self c.args.table.now c.args.c o)
    (c.requires.tested.shape.node c.args.k c.requires.k_bound).some
    (omega (arith, c.if-end-second.true, c.node_start-second.ensures.0, c.node_end-end.ensures))

pub loop-p-init : goal.loop-p-init
loop-p-init c =
    let o = circles# c.args.index.now in
    let low = c.node_start-second.ensures.0 in
    reach-two (between c.args.table.now c.args.c o) c.args.index.now c.args.k (row_self c.args.table.now c.args.c o)
    (omega (arith, c.if-end-second.false, c.node_end-end.ensures, low)) (omega (arith, low)) c.node_first-f.ensures.0
    c.apart-far.ensures

pub loop-p-preserved : goal.loop-p-preserved
loop-p-preserved c =
    reach-next (between c.args.table.now c.args.c (circles# c.args.index.now)) c.args.index.now c.args.k c.loop-p.invariant
    (omega (arith, c.loop-p-test.true, c.node_end-end.ensures)) c.node_first-f.ensures.0 c.apart-x.ensures
    (omega arith) (omega arith)
