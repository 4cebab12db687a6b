-- The greatest of the positions before p are found.
use Rattle.std.proofs.Common.{◌-◌, ◌≤◌}
use Rattle.card_shape.proofs.shape.positions_fit.Given as goal
use Rattle.card_shape.specs.Sweep.{GreatestTo}
use Rattle.card_words.specs.Cards.{card_words_lem}

abbrev pub invariant-loop-p : goal.invariant-loop-p
invariant-loop-p l = (l.p ≤ l.n) × GreatestTo (card_words_lem l.image) l.p l.found.row l.found.far

abbrev pub decreases-loop-p : goal.decreases-loop-p
decreases-loop-p l = l.n - l.p
