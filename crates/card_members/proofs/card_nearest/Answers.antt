-- The least of what was found and of the rest is the least of all.
use Rattle.std.proofs.Common.{◌∙◌, ap, arith}
use Rattle.card_members.proofs.card_nearest.Goals as goal
use Rattle.card_words.specs.Cards.{card_words_lem}
use Rattle.measure.specs.Table.{between}
use Rattle.tree.proofs.Nearest.{near_next, near-start}
use Rattle.words.specs.Words.{circles#, row#}

pub loop-p-init : goal.loop-p-init
loop-p-init c =
    let w = card_words_lem c.args.image.now in
    near-start (between c.args.table.now c.args.c (circles# w)) w c.args.k (omega arith) (omega arith)
    (c.card_row-f.ensures.0 ∙ ap (row# w) c.card_start-start.ensures.0) c.card_apart-near.ensures

pub loop-p-preserved : goal.loop-p-preserved
loop-p-preserved c =
    let w = card_words_lem c.args.image.now in
    near_next (between c.args.table.now c.args.c (circles# w)) w c.args.k c.loop-p.p c.loop-p.near (omega arith) c.loop-p.invariant
    (c.card_row-f.ensures.0 ∙ ap (row# w) c.card_start-start.ensures.0) c.card_apart.ensures c.min-near.ensures
