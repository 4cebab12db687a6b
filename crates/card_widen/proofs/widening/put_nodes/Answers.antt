-- One node more.
use Rattle.std.proofs.Common.{rules, arith}
use Rattle.card_widen.proofs.Writing.{noded-start, noded-step}
use Rattle.card_widen.proofs.widening.put_nodes.Goals as goal
use Rattle.card_words.specs.Cards.{card_words_lem}
use Rattle.measure.specs.Table.{between}
use Rattle.words.specs.Words.{circles#}

pub loop-k-init : goal.loop-k-init
loop-k-init c =
    let w = card_words_lem c.args.image.now in
    noded-start (between c.args.table.now c.args.c (circles# w)) w c.args.part.now

pub loop-k-preserved : goal.loop-k-preserved
loop-k-preserved c =
    let w = card_words_lem c.args.image.now in
    noded-step (between c.args.table.now c.args.c (circles# w)) w c.loop-k.invariant (omega arith) c.put_node.ensures
    c.card_start-start.ensures.0 c.card_count-count.ensures.0 c.card_child-child.ensures.0 c.card_radius-radius.ensures c.card_nearest-near.ensures (search rules)
