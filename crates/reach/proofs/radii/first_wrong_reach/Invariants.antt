use Rattle.laws.specs.First.{First}
use Rattle.measure.specs.Table.{between}
use Rattle.reach.proofs.radii.first_wrong_reach.Given as goal
use Rattle.tree.specs.Check.{wrong_reach_lem}
use Rattle.words.specs.Words.{circles#}

-- no node passed has a wrong reach
abbrev pub invariant-loop-k : goal.invariant-loop-k
invariant-loop-k l = First (wrong_reach_lem (between l.table l.c (circles# l.index)) l.index) 0 l.k l.k
