-- `columns::choice::fits`: the first test that fails decides, and behind the others the chosen columns do.
use Rattle.column_products.proofs.Choosing.{fit-by, inside-told, unfit-columns, unfit-count, unfit-rows, within_both}
use Rattle.columns.proofs.choice.fits.Goals as goal
use Rattle.columns.proofs.choice.fits.Goals.{else-is_within, else-is_within-2, then-is_within, then-is_within-2}
use Rattle.std.proofs.Common.{◌∙◌, arith, refl, sym}
use borrow.Author.Tests.{leb-false, leb-true}

pub returns-then-n-length : goal.returns-then-n-length
returns-then-n-length c =
    elim c.if-is_within-2.branch [
      | then-is_within-2 w ↦
          elim c.if-is_within.branch [
            | then-is_within v ↦
                let one = sym c.is_within.ensures ∙ v.if-is_within.true in
                let two = sym v.is_within-then-is_within.ensures ∙ sym v.value-is ∙ w.if-is_within-2.true in
                let both = within_both 1 16 c.args.c one in
                let some = within_both 1 c.args.c c.args.k two in
                let rows = leb-true _ _ (sym w.value-is ∙ c.if-n-length.true) in
                inside-told _ _ c.args.k (omega (arith, both, some)) c.are_inside.ensures ∙ fit-by _ _ _ _ _ one two both.0 rows refl
            | else-is_within v ↦ cc
          ]
      | else-is_within-2 w ↦ cc
    ]

pub returns-else-n-length : goal.returns-else-n-length
returns-else-n-length c =
    c.if-n-length.false
    ∙ elim c.if-is_within-2.branch [
      | then-is_within-2 w ↦
          elim c.if-is_within.branch [
            | then-is_within v ↦
                let one = sym c.is_within.ensures ∙ v.if-is_within.true in
                unfit-rows _ _ _ _ _ one (sym v.is_within-then-is_within.ensures ∙ sym v.value-is ∙ w.if-is_within-2.true) (within_both 1 16 c.args.c one).0
                (leb-false _ _ (sym w.value-is ∙ c.if-n-length.false))
            | else-is_within v ↦ cc
          ]
      | else-is_within-2 w ↦
          elim c.if-is_within.branch [
            | then-is_within v ↦
                unfit-count _ _ _ _ _ (sym c.is_within.ensures ∙ v.if-is_within.true)
                (sym v.is_within-then-is_within.ensures ∙ sym v.value-is ∙ w.if-is_within-2.false)
            | else-is_within v ↦ unfit-columns _ _ _ _ _ (sym c.is_within.ensures ∙ v.if-is_within.false)
          ]
    ]
