use Rattle.laws.specs.First.{First}
use Rattle.measure.specs.Table.{between}
use Rattle.stored_distances.proofs.leaf_wrong.Given as goal
use Rattle.stored_distances.specs.Leaves.{leaf_wrong_lem}
use Rattle.words.specs.Words.{circles#, start#}

-- no position of the leaf that was passed is wrong
abbrev pub invariant-loop-p : goal.invariant-loop-p
invariant-loop-p l = First (leaf_wrong_lem (between l.table l.c (circles# l.index)) l.index l.k) (start# l.index l.k) l.p l.p
