-- At node k the counters are the definition's, and the nodes before it fit.
use Rattle.card_shape.proofs.shape.tree_fits.Given as goal
use Rattle.card_words.specs.Cards.{card_words_lem}
use Rattle.shape_test.proofs.Pass.{Going}

abbrev pub invariant-loop-k : goal.invariant-loop-k
invariant-loop-k l = Going (card_words_lem l.image) l.total l.next l.edge l.depth l.k
