-- Both rows are parts of the table, of c columns each; where the set of circles is empty, the plain sum is the distance.
use Rattle.measure.proofs.Rows.{between-rows, by-none, none_few}
use Rattle.row_distances.proofs.row_distance.Goals as goal

pub returns-then-circles-c : goal.returns-then-circles-c
returns-then-circles-c c =
    (between-rows _ _ _ _ c.row_of-b.ensures.0 _ c.row_of-a.ensures (by-none _ _ _ _ (none_few _ c.args.c c.if-circles-c.true) c.plain.ensures.0), c.plain.ensures.1)

pub returns : goal.returns
returns c = (between-rows _ _ _ _ c.row_of-b.ensures.0 _ c.row_of-a.ensures c.rounded_or_many.ensures.0, c.rounded_or_many.ensures.1)
