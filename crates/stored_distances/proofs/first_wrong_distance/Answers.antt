-- one node more: the lowest wrong position is the lesser of that so far and of the node's
use Rattle.laws.proofs.First.{first-at-end}
use Rattle.measure.specs.Table.{between}
use Rattle.stored_distances.proofs.Distances.{distances-done, distances_more, distances-start}
use Rattle.stored_distances.proofs.first_wrong_distance.Goals as goal
use Rattle.std.proofs.Common.{arith}
use Rattle.words.specs.Words.{circles#}

pub loop-k-init : goal.loop-k-init
loop-k-init c =
    rw c.rows-n.ensures.0 (distances-start (between c.args.table.now c.args.c (circles# c.args.index.now)) c.args.index.now)

pub loop-k-preserved : goal.loop-k-preserved
loop-k-preserved c =
    let more = distances_more (between c.args.table.now c.args.c (circles# c.args.index.now)) c.args.index.now c.loop-k.k c.loop-k.low
    c.leaf_wrong.result c.loop-k.invariant c.leaf_wrong.ensures in
    rw c.min-low.ensures more

pub returns-then-low-n-clause-first : goal.returns-then-low-n-clause-first
returns-then-low-n-clause-first c =
    distances-done (between c.args.table.now c.args.c (circles# c.args.index.now)) c.args.index.now c.loop-k.k c.loop-k.low (omega arith)
    c.loop-k.invariant

pub returns-else-low-n-clause-first : goal.returns-else-low-n-clause-first
returns-else-low-n-clause-first c =
    first-at-end _ 0 _ c.loop-k.low (omega arith)
    (distances-done (between c.args.table.now c.args.c (circles# c.args.index.now)) c.args.index.now c.loop-k.k c.loop-k.low (omega arith)
    c.loop-k.invariant)
