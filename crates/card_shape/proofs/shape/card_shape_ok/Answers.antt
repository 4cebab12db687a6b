-- The tree's test, and then the positions'.
use Rattle.std.proofs.Common.{◌∙◌, sym}
use Rattle.card_shape.proofs.shape.card_shape_ok.Goals as goal
use Rattle.card_words.proofs.Cards.{card-held}
use Rattle.card_words.specs.Cards.{card_words_lem}
use Rattle.shape_test.proofs.Pass.{shape_go_on, shape_stop}

pub tree_fits-requires : goal.tree_fits-requires
tree_fits-requires c = card-held c.args.image.now c.requires

pub positions_fit-requires : goal.positions_fit-requires
positions_fit-requires c = card-held c.args.image.now c.requires

pub returns-then-tree_fits : goal.returns-then-tree_fits
returns-then-tree_fits c = c.positions_fit.ensures ∙ shape_go_on (card_words_lem c.args.image.now) (sym c.tree_fits.ensures ∙ c.if-tree_fits.true)

pub returns-else-tree_fits : goal.returns-else-tree_fits
returns-else-tree_fits c = c.if-tree_fits.false ∙ shape_stop (card_words_lem c.args.image.now) (sym c.tree_fits.ensures ∙ c.if-tree_fits.false)
