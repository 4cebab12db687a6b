-- What numbers decide, then whether a row is new, then what the index decides, then the circles.
use Rattle.append_refusals.proofs.Faults.{columns-few}
use Rattle.append_rows_refusals.proofs.Refusals.{circles-decide, index-refuses, no_header, no_row, numbers-refuse}
use Rattle.append_rows_refusals.proofs.test_append_rows.Goals as goal
use Rattle.std.proofs.lemmas.Result.{err_from_is_err_and}
use mathlib.Core.Bool.{false}
use native.Mathlib.Omega.{arith}

pub returns-in_err-test_writer : goal.returns-in_err-test_writer
returns-in_err-test_writer c =
    let p = err_from_is_err_and c.from_residual.result c.from_residual.ensures.1 in
    rw (p.1, p.2) (numbers-refuse _ _ _ _ _ _ c.in_err-test_writer.ensures)

pub returns-then-index-lt-HEADER : goal.returns-then-index-lt-HEADER
returns-then-index-lt-HEADER c = no_header _ _ _ _ _ c.in_ok-test_writer.ensures (omega arith)

pub returns-then-n-had : goal.returns-then-n-had
returns-then-n-had c = no_row _ _ _ _ _ c.in_ok-test_writer.ensures c.rows_in-n.ensures c.rows-had.ensures.0 (omega arith)

pub returns-in_err-test_index : goal.returns-in_err-test_index
returns-in_err-test_index c =
    let p = err_from_is_err_and c.from_residual-in_err-test_index.result c.from_residual-in_err-test_index.ensures.1 in
    rw (p.1, p.2) (index-refuses _ _ _ _ _ c.in_ok-test_writer.ensures c.rows_in-n.ensures c.rows-had.ensures.0 (omega (arith, c.if-n-had.false)) _
    c.in_err-test_index.ensures)

pub test_circles-requires : goal.test_circles-requires
test_circles-requires c =
    let a = c.args in
    columns-few a.table.now a.c a.index.now a.room a.work false 0 c.in_ok-test_writer.ensures

pub returns : goal.returns
returns c =
    circles-decide _ _ _ _ _ c.in_ok-test_writer.ensures c.rows_in-n.ensures c.rows-had.ensures.0 (omega (arith, c.if-n-had.false))
    c.in_ok-test_index.ensures c.circles.ensures c.test_circles.ensures
