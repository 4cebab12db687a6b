-- `ceilings::distance_to` meets its contract: each way is the lesser of the distance and one more than the ceiling, and rows of 16-bit numbers are at
-- most 1,048,560 apart.
use Rattle.std.proofs.Common.{arith}
use Rattle.measure.proofs.Capped.{by_no_circle, l1_bounded}
use Rattle.ceilings.proofs.distance_to.Goals as goal

pub returns-then-circles-ne0-clause-few : goal.returns-then-circles-ne0-clause-few
returns-then-circles-ne0-clause-few c = l1_bounded _ _ _ _ c.requires.1 (λ j. omega (arith, c.type_inv.a j)) (λ j. omega (arith, c.type_inv.b j))

pub returns-then-c-gt8-clause-given : goal.returns-then-c-gt8-clause-given
returns-then-c-gt8-clause-given c = by_no_circle _ _ _ _ _ (omega arith) c.many_to.ensures

pub returns-then-c-gt8-clause-few : goal.returns-then-c-gt8-clause-few
returns-then-c-gt8-clause-few c = l1_bounded _ _ _ _ c.requires.1 (λ j. omega (arith, c.type_inv.a j)) (λ j. omega (arith, c.type_inv.b j))
