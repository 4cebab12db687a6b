-- k nodes are written.
use Rattle.card_widen.proofs.Writing.{Noded}
use Rattle.card_widen.proofs.widening.put_nodes.Given as goal
use Rattle.card_words.specs.Cards.{card_words_lem}
use Rattle.measure.specs.Table.{between}
use Rattle.words.specs.Words.{circles#}

abbrev pub invariant-loop-k : goal.invariant-loop-k
invariant-loop-k l = Noded (between l.table l.c (circles# (card_words_lem l.image))) (card_words_lem l.image) l.fn.part l.part l.k
