-- The runs from i on tile what is left, front first.
use Rattle.std.proofs.Common.{◌≡◌, ◌+◌, ◌-◌, ◌*◌, ◌<◌}
use Rattle.card_shape.proofs.shape.tiles.Given as goal
use Rattle.card_words.specs.Cards.{card_words_lem}
use Rattle.words.specs.Shape.{tile}

abbrev pub invariant-loop-i : goal.invariant-loop-i
invariant-loop-i l =
    (l.at < 4294967296 * (l.i + 1)) × (tile (card_words_lem l.image) l.j l.m l.s l.e ≡ tile (card_words_lem l.image) (l.j + l.i) (l.m - l.i) l.at l.e)
