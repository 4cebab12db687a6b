-- One position of the block more.
use Rattle.card_shape.proofs.Sweep.{block-dist, block_row, greatest-next}
use Rattle.card_shape.proofs.shape.block_greatest.Goals as goal
use Rattle.card_words.specs.Cards.{card_words_lem}

pub loop-q-preserved : goal.loop-q-preserved
loop-q-preserved c =
    let i = c.args.image.now in
    greatest-next (card_words_lem i) c.loop-q.invariant
    (block_row i c.requires.held c.requires.in_block c.loop-q.q c.loop-q.auto.q c.loop-q-test.true c.get_word-row.ensures)
    (block-dist i c.requires.held c.requires.in_block c.loop-q.q c.loop-q.auto.q c.loop-q-test.true c.get_word-far.ensures)
    c.with-found.ensures.0 c.with-found.ensures.1
