-- `moved_runs::child_of` meets its contract: node v has no child yet, any other its old one. Assumes nothing.
use Rattle.moved_runs.proofs.Runs.{child-none, child-old}
use Rattle.moved_runs.proofs.child_of.Goals as goal
use borrow.Author.Rules.{rules}

pub returns-then-k-v : goal.returns-then-k-v
returns-then-k-v c = (child-none _ _ _ c.if-k-v.true, search rules)

pub returns-else-k-v : goal.returns-else-k-v
returns-else-k-v c = (child-old _ _ _ c.if-k-v.false c.node_child.ensures.0, search rules)
