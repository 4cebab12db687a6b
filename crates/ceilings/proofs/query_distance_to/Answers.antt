-- `ceilings::query_distance_to` meets its contract: each way is the lesser of the distance and one more than the ceiling, and the row is a part of the
-- table, of as many columns as the query. Rows of 16-bit numbers are at most 1,048,560 apart.
use Rattle.std.proofs.Common.{arith}
use Rattle.measure.proofs.Capped.{by_no_circle, capped-from, capped_of, from_bounded}
use Rattle.measure.proofs.Rows.{by-none}
use Rattle.ceilings.proofs.query_distance_to.Goals as goal

pub returns-then-circles-ne0 : goal.returns-then-circles-ne0
returns-then-circles-ne0 c = record {
  given = capped-from _ _ _ _ _ c.row_of-b.ensures.0 _ c.requires.2 (c.rounded_to.ensures);
  few = from_bounded _ _ _ _ _ c.requires.0 (λ j. omega (arith, c.type_inv.table j)) (λ j. omega (arith, c.type_inv.query j));
}

pub returns-then-c-gt8 : goal.returns-then-c-gt8
returns-then-c-gt8 c = record {
  given = capped-from _ _ _ _ _ c.row_of-b.ensures.0 _ c.requires.2 (by_no_circle _ _ _ _ _ (omega arith) c.many_to.ensures);
  few = from_bounded _ _ _ _ _ c.requires.0 (λ j. omega (arith, c.type_inv.table j)) (λ j. omega (arith, c.type_inv.query j));
}

pub returns-then-c-gt6 : goal.returns-then-c-gt6
returns-then-c-gt6 c = record {
  given = capped-from _ _ _ _ _ c.row_of-b.ensures.0 _ c.requires.2 (capped_of _ _ _ _ _ c.one_over.ensures (by-none _ _ _ _ (omega arith) c.many.ensures.0) c.min.ensures);
  few = from_bounded _ _ _ _ _ c.requires.0 (λ j. omega (arith, c.type_inv.table j)) (λ j. omega (arith, c.type_inv.query j));
}

pub returns : goal.returns
returns c = record {
  given = capped-from _ _ _ _ _ c.row_of-b.ensures.0 _ c.requires.2 (capped_of _ _ _ _ _ c.one_over-2.ensures (by-none _ _ _ _ (omega arith) c.plain.ensures.0) c.min-2.ensures);
  few = from_bounded _ _ _ _ _ c.requires.0 (λ j. omega (arith, c.type_inv.table j)) (λ j. omega (arith, c.type_inv.query j));
}
