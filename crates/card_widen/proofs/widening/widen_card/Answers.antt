-- The header, the nodes behind it and the positions behind these are the widened words.
use Rattle.std.proofs.Common.{refl, rules, arith}
use Rattle.card_widen.proofs.Writing.{filled}
use Rattle.card_widen.proofs.widening.widen_card.Goals as goal
use Rattle.card_words.specs.Cards.{card_words_lem}
use Rattle.measure.specs.Table.{between}
use Rattle.words.specs.Words.{circles#}

pub returns : goal.returns
returns c =
    let w = card_words_lem c.args.image.now in
    filled (between c.args.table.now c.args.c (circles# w)) w c.args.room.now _ _ c.requires.image_in_bounds c.put_top.ensures refl
    c.put_nodes.ensures refl (omega arith) c.put_pairs.ensures refl (search rules) (search rules)
