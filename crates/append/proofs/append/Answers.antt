-- `append::append` meets its contract: a refusal, or the index of one row, or the index that the row has joined. Assumes nothing.
use Prim.Native.Nat.{◌+◌, ℕ}
use Rattle.append.proofs.Growing.{refused-grows}
use Rattle.append.proofs.Outcomes.{built_appends, header_there, joinable, joined_appends, part_long, passed, rows_are, work_long}
use Rattle.append.proofs.append.Goals as goal
use Rattle.limits.proofs.Outcomes.{said_by-some}
use Rattle.limits.specs.Said.{Said}
use Rattle.std.proofs.lemmas.Result.{err_from_is_err_and}
use borrow.Author.Rules.{rules}
use mathlib.Core.Path.{ap, sym}
use native.Mathlib.Omega.{arith}

pub returns-in_err-test_append : goal.returns-in_err-test_append
returns-in_err-test_append c =
    let p = err_from_is_err_and c.from_residual.result c.from_residual.ensures.1 in
    rw (p.1, p.2)
    (refused-grows (λ i. omega (arith, c.type_inv.table i)) (ap (λ (v : Said). v.0) c.in_err-test_append.ensures) (said_by-some _))

pub rows-n-requires : goal.rows-n-requires
rows-n-requires c =
    let none = passed c.args.room.now c.args.work.now c.type_inv.table c.in_ok-test_append.ensures in
    header_there none

pub overflow_add-n : goal.overflow_add-n
overflow_add-n c =
    let none = passed c.args.room.now c.args.work.now c.type_inv.table c.in_ok-test_append.ensures in
    omega (arith, (rows_are none).1, c.rows-n.ensures)

pub rebuild-requires : goal.rebuild-requires
rebuild-requires c =
    let none = passed c.args.room.now c.args.work.now c.type_inv.table c.in_ok-test_append.ensures in
    header_there none

pub returns-then-n-eq1 : goal.returns-then-n-eq1
returns-then-n-eq1 c =
    let none = passed c.args.room.now c.args.work.now c.type_inv.table c.in_ok-test_append.ensures in
    built_appends none (omega (arith, c.if-n-eq1.true, c.rows-n.ensures)) c.rebuild.ensures

pub overflow_mul-used : goal.overflow_mul-used
overflow_mul-used c =
    let none = passed c.args.room.now c.args.work.now c.type_inv.table c.in_ok-test_append.ensures in
    omega (arith, (rows_are none).1, c.rows-n.ensures)

pub slice_bounds-join_row-end : goal.slice_bounds-join_row-end
slice_bounds-join_row-end c =
    let none = passed c.args.room.now c.args.work.now c.type_inv.table c.in_ok-test_append.ensures in
    work_long none (ap (λ (i : ℕ). i + 1) c.rows-n.ensures.0)

pub slice_bounds-join_row-end-2 : goal.slice_bounds-join_row-end-2
slice_bounds-join_row-end-2 c =
    let none = passed c.args.room.now c.args.work.now c.type_inv.table c.in_ok-test_append.ensures in
    sym (part_long none (ap (λ (i : ℕ). i + 1) c.rows-n.ensures.0))

pub join_row-nodes-requires : goal.join_row-nodes-requires
join_row-nodes-requires c =
    let none = passed c.args.room.now c.args.work.now c.type_inv.table c.in_ok-test_append.ensures in
    joinable none (ap (λ (k : ℕ). k + 1) c.rows-n.ensures.0) c.if-n-eq1.false

pub written-requires : goal.written-requires
written-requires c =
    let none = passed c.args.room.now c.args.work.now c.type_inv.table c.in_ok-test_append.ensures in
    (omega (arith, (rows_are none).1, c.rows-n.ensures), omega (arith, c.join_row-nodes.ensures.few, c.rows-n.ensures))

pub returns : goal.returns
returns c =
    let none = passed c.args.room.now c.args.work.now c.type_inv.table c.in_ok-test_append.ensures in
    joined_appends none (ap (λ (k : ℕ). k + 1) c.rows-n.ensures.0) c.join_row-nodes.ensures (search rules) c.written.ensures
