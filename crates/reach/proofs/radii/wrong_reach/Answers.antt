-- the radius, and the inner reach
use Rattle.measure.specs.Table.{between}
use Rattle.reach.proofs.Wrong.{reach_far, reach_near}
use Rattle.reach.proofs.radii.wrong_reach.Goals as goal
use Rattle.std.proofs.Common.{◌∙◌, ap, arith}
use Rattle.words.specs.Words.{circles#}
use borrow.Author.Tests.{ne_eqb}
use mathlib.Core.Bool.{not}

pub returns-then-node_radius-found : goal.returns-then-node_radius-found
returns-then-node_radius-found c =
    ap not (ne_eqb _ _ c.if-node_radius-found.true)
    ∙ reach_far (between c.args.table.now c.args.c (circles# c.args.index.now)) c.args.index.now c.args.k c.reaches-found.ensures
    c.node_radius.ensures c.if-node_radius-found.true

pub returns-else-node_radius-found : goal.returns-else-node_radius-found
returns-else-node_radius-found c =
    reach_near (between c.args.table.now c.args.c (circles# c.args.index.now)) c.args.index.now c.args.k c.reaches-found.ensures
    c.node_radius.ensures (omega arith) c.requires.tested.edition c.node_inner.ensures
