-- t groups and their nodes are written.
use Rattle.split.proofs.Sharing.{Sharing}
use Rattle.split.proofs.share.Given as goal
use Rattle.split.specs.Shares.{Sharable}

abbrev pub invariant-loop-t : goal.invariant-loop-t
invariant-loop-t l = record {
  asked : Sharable l.fn.room l.fn.work l.n l.m l.s l.count l.made;
  so_far : Sharing l.fn.room l.fn.work l.n l.m l.s l.count l.made l.room l.work l.at l.t;
}
