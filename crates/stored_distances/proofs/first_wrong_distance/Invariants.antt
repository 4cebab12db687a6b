use Rattle.laws.specs.First.{First}
use Rattle.measure.specs.Table.{between}
use Rattle.stored_distances.proofs.Distances.{wrong_to}
use Rattle.stored_distances.proofs.first_wrong_distance.Given as goal
use Rattle.words.specs.Words.{circles#, n#}

-- `low` is the lowest wrong position of the leaves passed
abbrev pub invariant-loop-k : goal.invariant-loop-k
invariant-loop-k l = First (wrong_to (between l.table l.c (circles# l.index)) l.index l.k) 0 (n# l.index) l.low
