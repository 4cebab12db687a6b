-- `append_rows::put_rows` meets its contract: all rows join the index, or the index of the first row, which is built here. Assumes nothing.
use Rattle.append_rows.proofs.First.{first-built, first-joinable, first-joined, header_there, row-there, some-joinable}
use Rattle.append_rows.proofs.put_rows.Goals as goal
use Rattle.limits.proofs.Outcomes.{said_by-some}
use Rattle.words.specs.Words.{n#}
use lib.Seq.{length-take-le}
use mathlib.Core.Path.{◌≡◌, sym}
use native.Mathlib.Omega.{arith}

pub rows-requires : goal.rows-requires
rows-requires c = header_there c.requires

pub fill_rows-requires : goal.fill_rows-requires
fill_rows-requires c = some-joinable c.requires c.rows.ensures.0 c.if-rows-ne0.true

pub slice_bounds-rebuild-end : goal.slice_bounds-rebuild-end
slice_bounds-rebuild-end c = sym (length-take-le _ _ (row-there c.requires))

pub rebuild-requires : goal.rebuild-requires
rebuild-requires c = header_there c.requires

pub unreachable-requires : goal.unreachable-requires
unreachable-requires c =
    let none : n# c.args.index.now ≡ 0 = omega (arith, c.rows.ensures.0, c.if-rows-ne0.false) in
    said_by-some _ (first-built c.requires none (λ i. omega (arith, c.type_inv.table i)) (omega arith) (omega arith) c.in_default.ensures)

pub fill_rows-requires-2 : goal.fill_rows-requires-2
fill_rows-requires-2 c =
    let none : n# c.args.index.now ≡ 0 = omega (arith, c.rows.ensures.0, c.if-rows-ne0.false) in
    first-joinable c.requires none (λ i. omega (arith, c.type_inv.table i)) (omega arith) (omega arith) c.in-Ok.ensures

pub returns : goal.returns
returns c =
    let none : n# c.args.index.now ≡ 0 = omega (arith, c.rows.ensures.0, c.if-rows-ne0.false) in
    first-joined c.requires none (λ i. omega (arith, c.type_inv.table i)) (omega arith) (omega arith) c.in-Ok.ensures c.fill_rows-2.ensures
