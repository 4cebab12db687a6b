-- p positions are written.
use Rattle.card_widen.proofs.Writing.{Placed}
use Rattle.card_widen.proofs.widening.put_pairs.Given as goal
use Rattle.card_words.specs.Cards.{card_words_lem}

abbrev pub invariant-loop-p : goal.invariant-loop-p
invariant-loop-p l = Placed (card_words_lem l.image) l.fn.part l.part l.p
