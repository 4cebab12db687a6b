-- `shape_test::tree_fits` meets its contract: each return is one end of the pass, and each turn counts one node more.
use Rattle.std.proofs.lemmas.Bool.{not_from_false, not_from_true}
use Rattle.std.proofs.Common.{arith}
use Rattle.laws.proofs.Tests.{no, yes}
use Rattle.shape_test.proofs.Pass.{going_on, going-orphan, going_start, going-turn, going-unfit}
use Rattle.shape_test.proofs.tree_fits.Goals as goal
use Rattle.shape_test.proofs.tree_fits.Goals.{then-k-edge, else-k-edge}
use Rattle.words.proofs.Strides.{node_next}
use Rattle.words.specs.Words.{edition#, width}
use native.Mathlib.Nat.{mul-zero}

pub loop-k-init : goal.loop-k-init
loop-k-init c =
    let w = c.args.index.now in
    record { going = going_start w c.nodes-total.ensures.0; place = omega (arith, mul-zero (width (edition# w))); stride = c.width-step.ensures.0 }

pub returns-then-next-k : goal.returns-then-next-k
returns-then-next-k c = going-orphan c.args.index.now c.loop-k.invariant.going (omega arith) (omega arith)

pub returns-then-not-node_fits : goal.returns-then-not-node_fits
returns-then-not-node_fits c =
    going-unfit c.args.index.now c.loop-k.invariant.going (omega arith) (omega arith) (no c.node_fits.ensures (not_from_false _ c.if-not-node_fits.true))

pub loop-k-preserved : goal.loop-k-preserved
loop-k-preserved c =
    let w = c.args.index.now in
    let v = c.loop-k.invariant in
    let fit = yes c.node_fits.ensures (not_from_true _ c.if-not-node_fits.false) in
    record {
      going = elim c.if-k-edge.branch [
        | then-k-edge t ↦ rw (t.edge-is, t.depth-is) (going-turn w v.going (omega arith) (omega arith) c.requires.whole.fan.1 fit c.brood_of-next.ensures t.if-k-edge.true)
        | else-k-edge t ↦ rw (t.edge-is, t.depth-is) (going_on w v.going (omega arith) (omega arith) c.requires.whole.fan.1 fit c.brood_of-next.ensures t.if-k-edge.false)
      ];
      place = omega (arith, node_next w c.loop-k.k, v.place, v.stride);
      stride = v.stride;
    }
