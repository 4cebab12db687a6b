-- `moved_runs::holds_run` meets its contract: the two tests are those of `holds`. Assumes nothing.
use Rattle.moved_runs.proofs.Runs.{holds-is, holds_not}
use Rattle.moved_runs.proofs.holds_run.Goals as goal
use borrow.Author.Tests.{lt-leb}
use mathlib.Core.Path.{◌∙◌}

pub returns-then-node_start : goal.returns-then-node_start
returns-then-node_start c =
    holds-is _ _ _ c.node_start-2.ensures.0 c.node_start.ensures.0 c.if-node_start.true c.node_end.ensures c.node_end-then-node_start.ensures

pub returns-else-node_start : goal.returns-else-node_start
returns-else-node_start c =
    lt-leb _ _ c.if-node_start.false ∙ holds_not _ _ _ c.node_start-2.ensures.0 c.node_start.ensures.0 c.if-node_start.false
