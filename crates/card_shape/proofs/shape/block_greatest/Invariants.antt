-- The greatest of the positions before q are found.
use Rattle.card_shape.proofs.shape.block_greatest.Given as goal
use Rattle.card_shape.specs.Sweep.{GreatestTo}
use Rattle.card_words.specs.Cards.{card_words_lem}

abbrev pub invariant-loop-q : goal.invariant-loop-q
invariant-loop-q l = GreatestTo (card_words_lem l.image) l.q l.found.row l.found.far
