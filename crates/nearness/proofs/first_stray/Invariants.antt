use Rattle.child_strays.specs.Strays.{FirstIn}
use Rattle.measure.specs.Table.{between}
use Rattle.nearness.proofs.Strays.{strays_to}
use Rattle.nearness.proofs.first_stray.Given as goal
use Rattle.words.specs.Words.{circles#}

-- `low` is the lowest position in the children passed that is closer to another centre
abbrev pub invariant-loop-a : goal.invariant-loop-a
invariant-loop-a l = FirstIn l.index l.k (strays_to (between l.table l.c (circles# l.index)) l.index l.k l.a) l.low
