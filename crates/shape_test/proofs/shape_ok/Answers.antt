-- `shape_test::shape_ok` meets its contract: the two passes, one after the other.
use Rattle.std.proofs.Common.{◌∙◌, sym}
use Rattle.shape_test.proofs.Pass.{shape_go_on, shape_stop}
use Rattle.shape_test.proofs.shape_ok.Goals as goal
use Rattle.words.proofs.Headers.{words-whole}
use Rattle.words.proofs.InShape.{whole}

pub tree_fits-requires : goal.tree_fits-requires
tree_fits-requires c =
    let w = words-whole c.args.index.now c.requires in
    record { whole = whole _ w.1; index_value = w.0 }

pub positions_fit-requires : goal.positions_fit-requires
positions_fit-requires c = whole _ (words-whole c.args.index.now c.requires).1

pub returns-then-tree_fits : goal.returns-then-tree_fits
returns-then-tree_fits c = c.positions_fit.ensures ∙ shape_go_on c.args.index.now (sym c.tree_fits.ensures ∙ c.if-tree_fits.true)

pub returns-else-tree_fits : goal.returns-else-tree_fits
returns-else-tree_fits c = c.if-tree_fits.false ∙ shape_stop c.args.index.now (sym c.tree_fits.ensures ∙ c.if-tree_fits.false)
