-- The row is a part of the table, of as many columns as the query; where the set of circles is empty, the plain sum is the distance.
use Rattle.measure.proofs.Rows.{by-none, from-query, none_few}
use Rattle.row_distances.proofs.query_distance.Goals as goal

pub returns-then-circles-c : goal.returns-then-circles-c
returns-then-circles-c c =
    (from-query _ _ _ _ c.row_of-b.ensures.0 _ c.requires.2 (by-none _ _ _ _ (none_few _ c.args.c c.if-circles-c.true) c.plain.ensures.0), c.plain.ensures.1)

pub returns : goal.returns
returns c = (from-query _ _ _ _ c.row_of-b.ensures.0 _ c.requires.2 c.rounded_or_many.ensures.0, c.rounded_or_many.ensures.1)
