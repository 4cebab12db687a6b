-- `regrow::open_piece` meets its contract: it is opened as the build opens it, or its old children are copied.
-- Assumes nothing.
use Rattle.regrow.proofs.Opens.{copies-left, copies-ready, splits-done, splits-ready}
use Rattle.regrow.proofs.open_piece.Goals as goal

pub open_node-requires : goal.open_node-requires
open_node-requires c =
    splits-ready c.requires c.word-child.ensures.0 c.centres-m.ensures.0 c.if-child-eq0.true c.columns.ensures.0 c.circles.ensures
    c.rows.ensures.0

pub returns-then-child-eq0 : goal.returns-then-child-eq0
returns-then-child-eq0 c =
    splits-done c.requires c.word-child.ensures.0 c.centres-m.ensures.0 c.if-child-eq0.true c.columns.ensures.0 c.circles.ensures
    c.rows.ensures.0
    c.open_node.ensures

pub copy_children-requires : goal.copy_children-requires
copy_children-requires c = record { change = c.requires.change; index_bound = copies-ready c.requires c.word-child.ensures.0 c.centres-m.ensures.0 c.if-child-eq0.false }

pub returns : goal.returns
returns c =
    copies-left c.requires c.word-child.ensures.0 c.centres-m.ensures.0 c.if-child-eq0.false c.copy_children.ensures
