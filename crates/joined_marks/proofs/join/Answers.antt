-- `joined_marks::join` meets its contract: row after row, the marks joined so far and how many of them are new. Assumes nothing.
use Rattle.std.proofs.Common.{arith}
use Rattle.joined_marks.proofs.Joining.{join-done, join-next, join_start}
use Rattle.joined_marks.proofs.join.Goals as goal

pub loop-i-init : goal.loop-i-init
loop-i-init c = join_start _ _ _ c.requires.0 c.requires.1

pub loop-i-preserved : goal.loop-i-preserved
loop-i-preserved c = join-next _ _ _ c.loop-i.invariant (omega arith) c.merge.ensures c.newly-new.ensures.0 c.newly-new.ensures.1

pub returns : goal.returns
returns c = join-done _ _ _ c.loop-i.invariant (omega arith)
