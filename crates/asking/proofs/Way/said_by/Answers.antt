-- One return for each way.
use Rattle.asking.proofs.Saying.{way-like, way-nearest, way-none}
use Rattle.asking.proofs.Way.said_by.Goals as goal

pub returns-then-eq : goal.returns-then-eq
returns-then-eq c = way-like _ c.as_slice.ensures c.if-eq.ensures

pub returns-then-eq-2 : goal.returns-then-eq-2
returns-then-eq-2 c = way-nearest _ c.as_slice.ensures c.if-eq.ensures c.as_slice-else-eq.ensures c.if-eq-2.ensures

pub returns-else-eq-2 : goal.returns-else-eq-2
returns-else-eq-2 c = way-none _ c.as_slice.ensures c.if-eq.ensures c.as_slice-else-eq.ensures c.if-eq-2.ensures
