-- One position more.
use Rattle.std.proofs.Common.{◌∙◌, length-set, arith}
use Rattle.card_widen.proofs.Writing.{placed-start, placed-step}
use Rattle.card_widen.proofs.widening.put_pairs.Goals as goal
use Rattle.card_words.specs.Cards.{card_words_lem}
use Rattle.words.proofs.Positions.{dist-word, row_word}

pub loop-p-init : goal.loop-p-init
loop-p-init c = placed-start (card_words_lem c.args.image.now) c.args.part.now

pub loop-p-preserved : goal.loop-p-preserved
loop-p-preserved c =
    let w = card_words_lem c.args.image.now in
    let base = c.card_pair_at-base in
    placed-step w c.loop-p.invariant (omega arith) (c.held_word.ensures ∙ row_word w base.result c.loop-p.p base.ensures)
    (c.held_word-in-loop-p.ensures ∙ dist-word w base.result c.loop-p.p base.ensures) (simp length-set)
