-- The nearest of the members up to position p.
use Rattle.card_members.proofs.card_nearest.Given as goal
use Rattle.card_words.specs.Cards.{card_words_lem}
use Rattle.measure.specs.Table.{between}
use Rattle.tree.proofs.Nearest.{NearTo}
use Rattle.words.specs.Words.{circles#}

abbrev pub invariant-loop-p : goal.invariant-loop-p
invariant-loop-p l = NearTo (between l.table l.c (circles# (card_words_lem l.image))) (card_words_lem l.image) l.k l.p l.near
