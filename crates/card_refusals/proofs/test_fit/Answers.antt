-- The header's rows and columns, the shape, and then the circles.
use Rattle.std.proofs.Common.{refl, sym, ap, ◌∙◌, arith}
use Rattle.card_refusals.proofs.Refusals.{by-fit, by-off}
use Rattle.card_refusals.proofs.test_fit.Goals as goal
use Rattle.card_refusals.proofs.test_fit.Goals.{then-card_rows-table-via-else-card_rows-table+then-card_columns-c, then-card_rows-table-via-then-card_rows-table}
use Rattle.card_words.proofs.Cards.{card-held}
use Rattle.index_test.proofs.Says.{says-columns, says-rows, says-shape}
use Rattle.limits.specs.declared.refusal.Refusal.TheVariants.{OtherTable, Shape}

pub card_rows-requires : goal.card_rows-requires
card_rows-requires c = card-held _ c.requires.carded

pub card_columns-requires : goal.card_columns-requires
card_columns-requires c = card-held _ c.requires.carded

pub returns-then-card_rows-table : goal.returns-then-card_rows-table
returns-then-card_rows-table c =
    elim c.then-card_rows-table.branch [
      | then-card_rows-table-via-then-card_rows-table w ↦
          by-fit c.args.table.now c.args.c c.args.image.now OtherTable (says-rows _ _ _ _ (λ e. omega (arith, w.if-card_rows-table.true, c.card_rows.ensures.0, e)))
      | then-card_rows-table-via-else-card_rows-table+then-card_columns-c w ↦
          by-fit c.args.table.now c.args.c c.args.image.now OtherTable (says-columns _ _ _ _ (λ e. omega (arith, w.if-card_columns-c.true, w.card_columns.ensures.0, e)))
    ]

pub returns-then-not-card_shape_ok : goal.returns-then-not-card_shape_ok
returns-then-not-card_shape_ok c =
    by-fit c.args.table.now c.args.c c.args.image.now Shape
    (says-shape _ _ _ _ refl (omega (arith, c.card_rows.ensures.0, c.if-card_rows-table.false)) (omega (arith, c.card_columns.ensures.0, c.if-card_columns-c.false))
    (sym c.card_shape_ok.ensures ∙ c.if-not-card_shape_ok.true))

pub card_circles-requires : goal.card_circles-requires
card_circles-requires c = card-held _ c.requires.carded

pub test_circles-requires : goal.test_circles-requires
test_circles-requires c = omega (arith, (card-held c.args.image.now c.requires.carded).whole.columns, c.if-card_columns-c.false, c.card_columns.ensures.0)

pub returns : goal.returns
returns c =
    by-off c.args.table.now c.args.c c.args.image.now
    (sym (ap (λ s. s.0)
    (says-shape _ _ _ _ refl (omega (arith, c.card_rows.ensures.0, c.if-card_rows-table.false)) (omega (arith, c.card_columns.ensures.0, c.if-card_columns-c.false))
    (sym c.card_shape_ok.ensures ∙ c.if-not-card_shape_ok.false))))
    c.card_circles.ensures c.test_circles.ensures
