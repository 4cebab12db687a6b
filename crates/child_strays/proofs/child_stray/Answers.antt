-- the child is a node, its run lies in node k's, and the test at p is whether another centre is closer
use Rattle.child_strays.proofs.Strays.{kid-end, kid-named, kid-on, kid-stop}
use Rattle.child_strays.proofs.child_stray.Goals as goal
use Rattle.laws.proofs.First.{search-start}
use Rattle.measure.specs.Table.{between}
use Rattle.reach.proofs.Pairing.{kid_of}
use Rattle.std.proofs.Common.{◌+◌, arith}
use Rattle.words.specs.Words.{circles#, count#, start#}

pub loop-p-init : goal.loop-p-init
loop-p-init c = rw c.node_start-p.ensures.0 (search-start _ _)

pub returns-then-closer_to_other : goal.returns-then-closer_to_other
returns-then-closer_to_other c =
    let w = c.args.index.now in
    let d = between c.args.table.now c.args.c (circles# w) in
    let e = c.node_child-child.ensures.0 in
    let kid = kid_of w c.requires.tested.shape c.args.k c.args.a e c.requires.k_bound.0 c.requires.k_bound.1 c.requires.k_bound.2 in
    kid-named d w c.args.k c.args.a c.loop-p.p e
    (kid-stop d w c.args.k (c.node_child-child.result + c.args.a) c.loop-p.p c.loop-p.invariant (omega arith) c.node_first-f.ensures.0
    c.apart-x.ensures e c.closer_to_other.ensures kid.low kid.high c.if-closer_to_other.true)

pub loop-p-preserved : goal.loop-p-preserved
loop-p-preserved c =
    let w = c.args.index.now in
    kid-on (between c.args.table.now c.args.c (circles# w)) w c.args.k (c.node_child-child.result + c.args.a) c.loop-p.p c.loop-p.invariant
    (omega arith) c.node_first-f.ensures.0 c.apart-x.ensures c.node_child-child.ensures.0 c.closer_to_other.ensures
    c.if-closer_to_other.false

pub returns : goal.returns
returns c =
    let w = c.args.index.now in
    let d = between c.args.table.now c.args.c (circles# w) in
    rw c.node_end.ensures
    (kid-named d w c.args.k c.args.a (start# w c.args.k + count# w c.args.k) c.node_child-child.ensures.0
    (kid-end d w c.args.k (c.node_child-child.result + c.args.a) c.loop-p.p c.loop-p.invariant (omega arith)))
