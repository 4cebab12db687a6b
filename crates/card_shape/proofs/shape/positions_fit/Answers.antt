-- One position more, and those of its block; at the end the greatest decide.
use Rattle.std.proofs.Common.{◌≡◌, ap, ◌∙◌, arith}
use Rattle.card_shape.proofs.Sweep.{greatest-next, greatest-start}
use Rattle.card_shape.proofs.shape.positions_fit.Goals as goal
use Rattle.card_words.specs.Cards.{card_words_lem}
use Rattle.laws.specs.Upto.{most_to}
use Rattle.words.proofs.Positions.{dist-word, row_word, rows-high, rows-low}
use Rattle.words.specs.Words.{dist#, n#, row#}
use borrow.Author.Tests.{le-ltb}

pub loop-p-init : goal.loop-p-init
loop-p-init c = (omega arith, greatest-start (card_words_lem c.args.image.now))

pub block_greatest-found-requires-clause-greatest_to : goal.block_greatest-found-requires-clause-greatest_to
block_greatest-found-requires-clause-greatest_to c =
    let w = card_words_lem c.args.image.now in
    let base = c.card_pair_at-base in
    greatest-next w c.loop-p.invariant.1 (c.held_word-row.ensures ∙ row_word w base.result c.loop-p.p base.ensures)
    (c.held_word-far.ensures ∙ dist-word w base.result c.loop-p.p base.ensures) c.with-found.ensures.0 c.with-found.ensures.1

pub returns-then-found-n : goal.returns-then-found-n
returns-then-found-n c =
    let w = card_words_lem c.args.image.now in
    let all : c.loop-p.p ≡ n# w = omega arith in
    rows-low w (c.loop-p.invariant.1.rows ∙ ap (most_to (row# w)) all) (c.loop-p.invariant.1.fars ∙ ap (most_to (dist# w)) all) (omega arith)

pub returns-else-found-n : goal.returns-else-found-n
returns-else-found-n c =
    let w = card_words_lem c.args.image.now in
    let all : c.loop-p.p ≡ n# w = omega arith in
    le-ltb _ _ c.if-found-n.false ∙ rows-high w (omega arith) (c.loop-p.invariant.1.rows ∙ ap (most_to (row# w)) all) (omega arith)
