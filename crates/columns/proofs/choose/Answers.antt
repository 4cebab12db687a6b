-- `columns::choose`: no choice, a product that is too great, and the table of the chosen columns.
use Rattle.column_products.proofs.Choosing.{fit_of, rows_small}
use Rattle.columns.proofs.choose.Goals as goal
use Rattle.std.proofs.Common.{◌∙◌, sym}

pub test_products-requires-clause-choice : goal.test_products-requires-clause-choice
test_products-requires-clause-choice c = (fit_of _ _ _ _ _ (sym c.fits.ensures ∙ c.if-not-fits.false)).choice

pub test_products-requires-clause-room : goal.test_products-requires-clause-room
test_products-requires-clause-room c = (fit_of _ _ _ _ _ (sym c.fits.ensures ∙ c.if-not-fits.false)).room

pub choose_rows-requires : goal.choose_rows-requires
choose_rows-requires c =
    let f = fit_of _ _ _ _ _ (sym c.fits.ensures ∙ c.if-not-fits.false) in
    record {
      choice = f.choice;
      narrow = f.narrow;
      room = f.room;
      small = rows_small _ _ _ _ _ _ _ c.in_ok-test_products.ensures;
    }
