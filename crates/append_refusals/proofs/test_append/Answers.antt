-- What numbers decide, then whether there is a row, then what the index decides, then what the circles decide.
use Rattle.append_refusals.proofs.Faults.{columns-few, header}
use Rattle.append_refusals.proofs.Refusals.{circles-decide, index-refuses, no_row, numbers-refuse}
use Rattle.append_refusals.proofs.test_append.Goals as goal
use Rattle.std.proofs.lemmas.Result.{err_from_is_err_and}
use mathlib.Core.Bool.{false}
use mathlib.Core.Path.{refl}
use native.Mathlib.Omega.{arith}

pub returns-in_err-test_writer : goal.returns-in_err-test_writer
returns-in_err-test_writer c =
    let p = err_from_is_err_and c.from_residual.result c.from_residual.ensures.1 in
    rw (p.1, p.2) (numbers-refuse _ _ _ _ _ _ c.in_err-test_writer.ensures)

pub returns-then-n-eq0 : goal.returns-then-n-eq0
returns-then-n-eq0 c = no_row _ _ _ _ _ c.in_ok-test_writer.ensures (omega (arith, c.rows_in-n.ensures))

pub returns-in_err-test_index : goal.returns-in_err-test_index
returns-in_err-test_index c =
    let p = err_from_is_err_and c.from_residual-in_err-test_index.result c.from_residual-in_err-test_index.ensures.1 in
    rw (p.1, p.2) (index-refuses _ _ _ _ _ c.in_ok-test_writer.ensures c.rows_in-n.ensures c.if-n-eq0.false _ c.in_err-test_index.ensures)

pub circles-requires : goal.circles-requires
circles-requires c =
    let a = c.args in
    header a.table.now a.c a.index.now a.room a.work false _ c.in_ok-test_writer.ensures refl refl c.in_ok-test_index.ensures

pub test_circles-requires : goal.test_circles-requires
test_circles-requires c =
    let a = c.args in
    columns-few a.table.now a.c a.index.now a.room a.work false 0 c.in_ok-test_writer.ensures

pub returns : goal.returns
returns c =
    circles-decide _ _ _ _ _ c.in_ok-test_writer.ensures c.rows_in-n.ensures c.if-n-eq0.false c.in_ok-test_index.ensures c.circles.ensures
    c.test_circles.ensures
