-- One node more, in its level or the first of the next; one that does not fit ends it.
use Rattle.std.proofs.Common.{sym, ◌∙◌}
use Rattle.card_shape.proofs.shape.tree_fits.Goals as goal
use Rattle.card_shape.proofs.shape.tree_fits.Goals.{else-k-edge, then-k-edge, then-next-k-via-else-next-k+then-not-node_fits, then-next-k-via-then-next-k}
use Rattle.card_words.specs.Cards.{card_words_lem}
use Rattle.shape_test.proofs.Pass.{going_on, going-orphan, going_start, going-turn, going-unfit}

pub loop-k-init : goal.loop-k-init
loop-k-init c = going_start (card_words_lem c.args.image.now) c.card_nodes-total.ensures.0

pub returns-then-next-k : goal.returns-then-next-k
returns-then-next-k c =
    elim c.then-next-k.branch [
      | then-next-k-via-then-next-k w ↦ going-orphan (card_words_lem c.args.image.now) c.loop-k.invariant c.loop-k-test.true w.if-next-k.true
      | then-next-k-via-else-next-k+then-not-node_fits w ↦
          going-unfit (card_words_lem c.args.image.now) c.loop-k.invariant c.loop-k-test.true w.if-next-k.false
          (sym w.node_fits.ensures ∙ w.if-not-node_fits.true)
    ]

pub loop-k-preserved : goal.loop-k-preserved
loop-k-preserved c =
    let fit = sym c.node_fits.ensures ∙ c.if-not-node_fits.false in
    elim c.if-k-edge.branch [
      | then-k-edge w ↦
          rw (w.edge-is, w.depth-is)
          (going-turn (card_words_lem c.args.image.now) c.loop-k.invariant c.loop-k-test.true c.if-next-k.false c.requires.whole.fan.1 fit c.brood_of-next.ensures
          w.if-k-edge.true)
      | else-k-edge w ↦
          rw (w.edge-is, w.depth-is)
          (going_on (card_words_lem c.args.image.now) c.loop-k.invariant c.loop-k-test.true c.if-next-k.false c.requires.whole.fan.1 fit c.brood_of-next.ensures
          w.if-k-edge.false)
    ]
