-- `circling::circles_of`: the items so far are right.
use Rattle.circle_columns.proofs.Items.{Right}
use Rattle.circling.proofs.circles_of.Given as goal

abbrev pub invariant-loop-i : goal.invariant-loop-i
invariant-loop-i l = Right l.names l.c l.list l.chosen l.k l.i
