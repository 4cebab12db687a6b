use Prim.Native.Nat.{◌+◌}
use Rattle.child_strays.specs.Strays.{closer_than}
use Rattle.few_columns.proofs.closer_to_other.Given as goal
use Rattle.laws.specs.First.{First}
use Rattle.measure.specs.Table.{between}
use Rattle.words.specs.Words.{circles#}

-- no centre passed is closer
abbrev pub invariant-loop-f : goal.invariant-loop-f
invariant-loop-f l =
    First (closer_than (between l.table l.c (circles# l.index)) l.index l.p l.x) l.child (l.child + l.f-index) (l.child + l.f-index)
