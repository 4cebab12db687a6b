use Rattle.child_strays.specs.Strays.{kid_strays}
use Rattle.child_strays.proofs.child_stray.Given as goal
use Rattle.laws.specs.First.{First}
use Rattle.measure.specs.Table.{between}
use Rattle.words.specs.Words.{circles#, start#}

-- no position of the child that was passed is closer to another centre
abbrev pub invariant-loop-p : goal.invariant-loop-p
invariant-loop-p l = First (kid_strays (between l.table l.c (circles# l.index)) l.index l.k l.j) (start# l.index l.j) l.p l.p
