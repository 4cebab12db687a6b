-- `append_rows::append_rows` meets its contract: a refusal, or the index of one row, or the index that all rows have joined. Assumes nothing.
use Rattle.append.proofs.Growing.{refused-grows}
use Rattle.append_rows.proofs.Outcomes.{built_appends, header_there, joined_appends, part_long, passed, puttable, rows_are, work_long}
use Rattle.append_rows.proofs.append_rows.Goals as goal
use Rattle.limits.proofs.Outcomes.{said_by-some}
use Rattle.limits.specs.Said.{Said}
use Rattle.std.proofs.lemmas.Result.{err_from_is_err_and}
use borrow.Author.Rules.{rules}
use mathlib.Core.Path.{ap, sym}
use native.Mathlib.Omega.{arith}

pub returns-in_err-test_append_rows : goal.returns-in_err-test_append_rows
returns-in_err-test_append_rows c =
    let p = err_from_is_err_and c.from_residual.result c.from_residual.ensures.1 in
    rw (p.1, p.2)
    (refused-grows (λ i. omega (arith, c.type_inv.table i)) (ap (λ (v : Said). v.0) c.in_err-test_append_rows.ensures) (said_by-some _))

pub rebuild-requires : goal.rebuild-requires
rebuild-requires c = header_there (passed c.args.room.now c.args.work.now c.type_inv.table c.in_ok-test_append_rows.ensures)

pub returns-then-n-eq1 : goal.returns-then-n-eq1
returns-then-n-eq1 c =
    let none = passed c.args.room.now c.args.work.now c.type_inv.table c.in_ok-test_append_rows.ensures in
    built_appends none c.rows_in-n.ensures c.if-n-eq1.true c.rebuild.ensures

pub overflow_mul-used : goal.overflow_mul-used
overflow_mul-used c =
    let none = passed c.args.room.now c.args.work.now c.type_inv.table c.in_ok-test_append_rows.ensures in
    omega (arith, (rows_are none).1, c.rows_in-n.ensures)

pub slice_bounds-put_rows-end : goal.slice_bounds-put_rows-end
slice_bounds-put_rows-end c =
    work_long (passed c.args.room.now c.args.work.now c.type_inv.table c.in_ok-test_append_rows.ensures) c.rows_in-n.ensures

pub slice_bounds-put_rows-end-2 : goal.slice_bounds-put_rows-end-2
slice_bounds-put_rows-end-2 c =
    sym (part_long (passed c.args.room.now c.args.work.now c.type_inv.table c.in_ok-test_append_rows.ensures) c.rows_in-n.ensures)

pub put_rows-nodes-requires : goal.put_rows-nodes-requires
put_rows-nodes-requires c =
    puttable (passed c.args.room.now c.args.work.now c.type_inv.table c.in_ok-test_append_rows.ensures) c.rows_in-n.ensures c.if-n-eq1.false

pub written-requires : goal.written-requires
written-requires c =
    let none = passed c.args.room.now c.args.work.now c.type_inv.table c.in_ok-test_append_rows.ensures in
    (omega (arith, (rows_are none).1, c.rows_in-n.ensures), omega (arith, c.put_rows-nodes.ensures.few, c.rows_in-n.ensures))

pub returns : goal.returns
returns c =
    let none = passed c.args.room.now c.args.work.now c.type_inv.table c.in_ok-test_append_rows.ensures in
    joined_appends none c.rows_in-n.ensures c.put_rows-nodes.ensures (search rules) c.written.ensures
