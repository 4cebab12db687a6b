-- `listing::is_listed` meets its contract: the shape is tested where the words passed, and whole words have a header.
use Rattle.std.proofs.Common.{◌∙◌, sym}
use Rattle.listing.proofs.is_listed.Goals as goal
use Rattle.listing.proofs.is_listed.Goals.{then-words_ok, else-words_ok}
use Rattle.words.proofs.InShape.{header_there}

pub shape_ok-requires : goal.shape_ok-requires
shape_ok-requires c = sym c.words_ok.ensures ∙ c.if-words_ok.true

pub nodes-requires : goal.nodes-requires
nodes-requires c = elim c.if-words_ok.branch [
  | then-words_ok w ↦ header_there _ (sym c.words_ok.ensures ∙ w.if-words_ok.true)
  | else-words_ok w ↦ header_there _ (sym c.words_ok.ensures ∙ sym w.value-is ∙ c.if-shape_ok.true)
]
