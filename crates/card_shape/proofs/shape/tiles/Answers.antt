-- One run more, where it starts at the place that is due; a run that starts elsewhere ends it.
use Rattle.std.proofs.Common.{◌+◌, ◌-◌, sym, ap, ◌∙◌, rules}
use Rattle.card_shape.proofs.shape.tiles.Goals as goal
use Rattle.card_words.specs.Cards.{card_words_lem}
use Rattle.words.proofs.Tiles.{tile-end, tile-step, tile-stop}
use Rattle.words.specs.Shape.{tile}

pub returns-then-card_start-at : goal.returns-then-card_start-at
returns-then-card_start-at c =
    sym (c.loop-i.invariant.1
    ∙ sym (tile-stop (card_words_lem c.args.image.now) c.args.j c.loop-i.i c.args.m c.loop-i.at c.args.e c.loop-i-test.true
    (λ e. c.if-card_start-at.true (c.card_start.ensures.0 ∙ e))))

pub loop-i-preserved : goal.loop-i-preserved
loop-i-preserved c =
    let w = card_words_lem c.args.image.now in
    let i = c.loop-i.i in (
      search rules,
      c.loop-i.invariant.1
          ∙ tile-step w c.args.j i c.args.m c.loop-i.at c.args.e c.loop-i-test.true (sym c.card_start.ensures.0 ∙ c.if-card_start-at.false)
          ∙ ap (λ k. tile w (c.args.j + (i + 1)) (c.args.m - (i + 1)) (c.loop-i.at + k) c.args.e) (sym c.card_count-at.ensures.0),
    )

pub returns : goal.returns
returns c =
    tile-end (card_words_lem c.args.image.now) c.args.j c.loop-i.i c.args.m c.loop-i.at c.args.e c.loop-i-test.false ∙ sym c.loop-i.invariant.1
