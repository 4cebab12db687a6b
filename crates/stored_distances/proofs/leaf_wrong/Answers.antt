-- a leaf's run alone can have a wrong distance, and the test at p is whether the stored and the measured one differ
use Rattle.laws.proofs.First.{first-none, search-start}
use Rattle.measure.specs.Table.{between}
use Rattle.reach.proofs.Pairing.{inner_no, inner-yes}
use Rattle.stored_distances.proofs.Distances.{leaf-end, leaf-on, leaf-stop, none-inner}
use Rattle.stored_distances.proofs.leaf_wrong.Goals as goal
use Rattle.std.proofs.Common.{arith}
use Rattle.words.specs.Words.{circles#}

pub returns-then-node_child-ne0 : goal.returns-then-node_child-ne0
returns-then-node_child-ne0 c =
    let w = c.args.index.now in
    rw c.rows-n.ensures.0
    (first-none _ 0 _ (omega arith)
    (none-inner (between c.args.table.now c.args.c (circles# w)) w c.args.k
    (inner-yes w c.args.k c.node_child.ensures.0 c.if-node_child-ne0.true)))

pub loop-p-init : goal.loop-p-init
loop-p-init c = rw c.node_start-p.ensures.0 (search-start _ _)

pub loop-p-preserved : goal.loop-p-preserved
loop-p-preserved c =
    let w = c.args.index.now in
    leaf-on (between c.args.table.now c.args.c (circles# w)) w c.args.k c.loop-p.p c.loop-p.invariant
    (inner_no w c.args.k c.node_child.ensures.0 c.if-node_child-ne0.false) (omega arith) c.node_first-f.ensures.0
    c.stored_at.ensures c.apart.ensures c.if-stored_at-apart.false

pub returns-then-stored_at-apart : goal.returns-then-stored_at-apart
returns-then-stored_at-apart c =
    let w = c.args.index.now in
    leaf-stop (between c.args.table.now c.args.c (circles# w)) w c.args.k c.loop-p.p c.loop-p.invariant
    (inner_no w c.args.k c.node_child.ensures.0 c.if-node_child-ne0.false) (omega arith) c.node_first-f.ensures.0
    c.stored_at.ensures c.apart.ensures (c.requires.tested.shape.node c.args.k c.requires.k_bound).run c.if-stored_at-apart.true

pub returns : goal.returns
returns c =
    let w = c.args.index.now in
    rw c.rows-n.ensures.0
    (leaf-end (between c.args.table.now c.args.c (circles# w)) w c.args.k c.loop-p.p c.loop-p.invariant (omega arith))
