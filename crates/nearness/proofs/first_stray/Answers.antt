-- child by child, the least of the firsts
use Rattle.child_strays.specs.Strays.{Firsts}
use Rattle.measure.specs.Table.{between}
use Rattle.nearness.proofs.Strays.{near-done, near-leaf, near-more, near-start}
use Rattle.nearness.proofs.first_stray.Goals as goal
use Rattle.reach.proofs.Pairing.{inner_no, inner-yes}
use Rattle.std.proofs.Common.{ℕ, arith, subst}
use Rattle.words.specs.Words.{circles#}

pub returns-then-child-eq0 : goal.returns-then-child-eq0
returns-then-child-eq0 c =
    let w = c.args.index.now in
    rw c.node_end-low.ensures
    (near-leaf (between c.args.table.now c.args.c (circles# w)) w c.args.k
    (inner_no w c.args.k c.node_child-child.ensures.0 c.if-child-eq0.true))

pub firsts-fs-requires-clause-index_bound : goal.firsts-fs-requires-clause-index_bound
firsts-fs-requires-clause-index_bound c =
    let inner = inner-yes c.args.index.now c.args.k c.node_child-child.ensures.0 c.if-child-eq0.false in
    omega (arith, ((c.requires.tested.0.shape.node c.args.k c.requires.k_bound).kids inner).inside, c.node_child-child.ensures.0)

pub loop-a-init : goal.loop-a-init
loop-a-init c =
    rw c.node_end-low.ensures (near-start (between c.args.table.now c.args.c (circles# c.args.index.now)) c.args.index.now c.args.k)

pub child_first-requires-clause-k_bound : goal.child_first-requires-clause-k_bound
child_first-requires-clause-k_bound c =
    let w = c.args.index.now in (
      c.requires.k_bound,
      inner-yes w c.args.k c.node_child-child.ensures.0 c.if-child-eq0.false,
      omega arith,
      subst (λ (i : ℕ). Firsts w i c.firsts-fs.result) c.node_child-child.ensures.0 c.firsts-fs.ensures,
    )

pub loop-a-preserved : goal.loop-a-preserved
loop-a-preserved c =
    let w = c.args.index.now in
    let more = near-more (between c.args.table.now c.args.c (circles# w)) w c.args.k c.loop-a.a c.loop-a.low c.child_first.result
    c.loop-a.invariant c.child_first.ensures in
    rw c.min-low.ensures more

pub returns : goal.returns
returns c =
    let w = c.args.index.now in
    near-done (between c.args.table.now c.args.c (circles# w)) w c.args.k c.loop-a.a c.loop-a.low
    (inner-yes w c.args.k c.node_child-child.ensures.0 c.if-child-eq0.false) (omega arith) c.loop-a.invariant
