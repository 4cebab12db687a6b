-- Both rows lie in the table.
use Rattle.std.proofs.Common.{◌∙◌, ap₂, arith}
use Rattle.card_members.proofs.Tabled.{columns-few, row-there}
use Rattle.card_members.proofs.card_apart.Goals as goal
use Rattle.measure.specs.Table.{between}

pub row_distance-requires : goal.row_distance-requires
row_distance-requires c =
    let P = c.requires.tabled in
    let fits = row-there c.args.table.now c.args.c c.args.image.now P in
    let low = (P.over.shape.place c.args.p c.requires.f_bound.1).row in (
      columns-few c.args.table.now c.args.c c.args.image.now P,
      fits c.args.f c.requires.f_bound.0,
      fits c.card_row.result (omega (arith, low, c.card_row.ensures.0)),
    )

pub returns : goal.returns
returns c =
    c.row_distance.ensures.0 ∙ ap₂ (λ o j. between c.args.table.now c.args.c o c.args.f j) c.requires.f_bound.2 c.card_row.ensures.0
