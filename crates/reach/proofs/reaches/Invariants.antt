use Rattle.measure.specs.Table.{between}
use Rattle.reach.proofs.Farthest.{Reaching}
use Rattle.reach.proofs.reaches.Given as goal
use Rattle.words.specs.Words.{circles#}

-- the greatest and the least so far, and what is left of the run, give those of all
abbrev pub invariant-loop-p : goal.invariant-loop-p
invariant-loop-p l = Reaching (between l.table l.c (circles# l.index)) l.index l.k l.p l.far l.near
