-- The image's word is the card's.
use Rattle.std.proofs.Common.{◌∙◌}
use Rattle.card_words.proofs.Cards.{card-at}
use Rattle.card_words.proofs.places.held_word.Goals as goal

pub returns : goal.returns
returns c = c.image_word.ensures ∙ card-at c.args.image.now c.args.j c.requires.j_in_bounds
