-- At node k the counters are the definition's, and the nodes before it fit.
use Rattle.std.proofs.Common.{◌≡◌}
use Rattle.shape_test.proofs.Pass.{Going}
use Rattle.shape_test.proofs.tree_fits.Given as goal
use Rattle.words.specs.Words.{edition#, node_at_lem, width}

abbrev pub invariant-loop-k : goal.invariant-loop-k
invariant-loop-k l = record {
  going : Going l.index l.total l.next l.edge l.depth l.k;
  place : l.here ≡ node_at_lem l.index l.k;
  stride : l.step ≡ width (edition# l.index);
}
