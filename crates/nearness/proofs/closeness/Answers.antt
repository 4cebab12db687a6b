-- a node that has none leaves the first fault to the nodes after it
use Rattle.measure.specs.Table.{between}
use Rattle.nearness.proofs.Strays.{nodes-on, nodes-over, nodes-start, nodes-stop}
use Rattle.nearness.proofs.closeness.Goals as goal
use Rattle.std.proofs.Common.{◌∙◌, arith, sym}
use Rattle.words.specs.Words.{circles#}

pub loop-node-init : goal.loop-node-init
loop-node-init c = nodes-start (between c.args.table.now c.args.c (circles# c.args.index.now)) c.args.index.now

pub returns-then-position-node_end : goal.returns-then-position-node_end
returns-then-position-node_end c =
    let f = c.first_stray-position in
    sym
    (c.loop-node.invariant
    ∙ nodes-stop (between c.args.table.now c.args.c (circles# c.args.index.now)) c.args.index.now c.loop-node.node (omega arith) f.result
    (omega arith) f.ensures)

pub loop-node-preserved : goal.loop-node-preserved
loop-node-preserved c =
    let f = c.first_stray-position in
    c.loop-node.invariant
    ∙ nodes-on (between c.args.table.now c.args.c (circles# c.args.index.now)) c.args.index.now c.loop-node.node (omega arith) f.result
    (omega arith) f.ensures

pub returns : goal.returns
returns c =
    sym
    (c.loop-node.invariant
    ∙ nodes-over (between c.args.table.now c.args.c (circles# c.args.index.now)) c.args.index.now c.loop-node.node (omega arith))
