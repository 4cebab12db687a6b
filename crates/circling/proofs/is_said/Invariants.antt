-- `circling::is_said`: the items so far were asked.
use Rattle.circle_columns.specs.Circles.{says}
use Rattle.circling.proofs.is_said.Given as goal
use Rattle.laws.specs.Lists.{any, range}
use Rattle.std.proofs.Common.{◌≡◌}

abbrev pub invariant-loop-i : goal.invariant-loop-i
invariant-loop-i l = l.found ≡ any (says l.names l.c l.list l.j) (range 0 l.i)
