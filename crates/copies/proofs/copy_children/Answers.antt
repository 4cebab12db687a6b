-- `copies::copy_children` meets its contract: i old nodes are copied (`with_copies`).
-- Assumes nothing.
use Rattle.copies.proofs.Copies.{copies-done, copies-start, copies-step}
use Rattle.copies.specs.Copies.{copied}
use Rattle.measure.specs.Table.{between}
use Rattle.words.specs.Words.{c#, circles#, m#}
use borrow.Author.Rules.{rules}
use native.Mathlib.Omega.{arith}
use Rattle.copies.proofs.copy_children.Goals as goal

pub loop-i-init : goal.loop-i-init
loop-i-init c =
    let a = c.args in
    let copy = copied (between a.table.now (c# a.index.now) (circles# a.index.now)) a.index.now a.p.node a.p.added in (
      search rules,
      search rules,
      copies-start copy a.child a.room.now a.made,
    )

pub loop-i-preserved : goal.loop-i-preserved
loop-i-preserved c =
    let a = c.args in
    let copy = copied (between a.table.now (c# a.index.now) (circles# a.index.now)) a.index.now a.p.node a.p.added in (
      search rules,
      search rules,
      copies-step copy a.child a.room.now a.made
          c.loop-i.i (omega arith) c.loop-i.invariant.2 c.copied_node.ensures,
    )

pub returns : goal.returns
returns c =
    let a = c.args in
    let copy = copied (between a.table.now (c# a.index.now) (circles# a.index.now)) a.index.now a.p.node a.p.added in
    copies-done copy a.child a.room.now a.made c.loop-i.i
    (m# a.index.now) (omega (arith, c.centres-m.ensures.0)) c.loop-i.invariant.2
