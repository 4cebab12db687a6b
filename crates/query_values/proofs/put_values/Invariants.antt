-- Nothing is wrong with the items so far, and their values are put.
use Rattle.query_values.proofs.Putting.{Putting}
use Rattle.query_values.proofs.put_values.Given as goal

abbrev pub invariant-loop-i : goal.invariant-loop-i
invariant-loop-i l = Putting l.list l.circles l.factors l.k l.fn.queries l.queries l.i
