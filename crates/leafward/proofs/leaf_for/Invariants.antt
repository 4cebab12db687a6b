-- `leafward::leaf_for` meets its contract: the walk has come to a node of the way, and node numbers grow (`Walking`). Assumes nothing.
use Prim.Native.Nat.{◌-◌}
use Rattle.leafward.proofs.Walking.{Walking}
use Rattle.words.specs.Words.{nodes#}
use Rattle.leafward.proofs.leaf_for.Given as goal

abbrev pub invariant-loop-child : goal.invariant-loop-child
invariant-loop-child l = Walking l.table l.c l.index l.z l.node l.left l.child

abbrev pub decreases-loop-child : goal.decreases-loop-child
decreases-loop-child l = nodes# l.index - l.node
