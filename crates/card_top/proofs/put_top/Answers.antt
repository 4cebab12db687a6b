-- The header as it stands, and then the edition.
use Rattle.card_top.proofs.Header.{top_put}
use Rattle.card_top.proofs.put_top.Goals as goal

pub returns : goal.returns
returns c = top_put c.args.image.now c.requires.held c.args.room.now c.get_words.ensures
