-- the call is refused, or past all refusals the passes can go
use Rattle.audit.proofs.Contract.{refused, taken}
use Rattle.audit.proofs.check.Goals as goal
use Rattle.audit_refusals.specs.Numbers.{check_asks}
use Rattle.limits.proofs.Faults.{number_of}
use Rattle.limits.proofs.Outcomes.{said_by-some}
use Rattle.refusals.proofs.Refusals.{clear}
use Rattle.refusals.proofs.Tested.{clear-space, tested}
use Rattle.std.proofs.Common.{[], ap, arith, length, refl, sym}
use Rattle.std.proofs.lemmas.Result.{err_from_is_err_and}
use borrow.Author.Tests.{ltb-false}

pub returns-in_err-test_audit : goal.returns-in_err-test_audit
returns-in_err-test_audit c =
    let a = c.args in
    let p = err_from_is_err_and c.from_residual.result c.from_residual.ensures.1 in
    rw (p.1, p.2) (refused a.table.now a.c a.index.now a.work.now _ c.in_err-test_audit.ensures (said_by-some _))

pub first_fault-requires-clause-tested : goal.first_fault-requires-clause-tested
first_fault-requires-clause-tested c =
    let a = c.args in
    let q = check_asks a.table.now a.c (length a.work.now) in
    let C = clear q a.table.now a.index.now [] (sym (ap number_of c.in_ok-test_audit.ensures)) in
    (tested a.table.now a.c q a.index.now [] refl refl C, clear-space a.table.now a.c q a.index.now [] refl refl C)

pub first_fault-requires-clause-index_in_bounds : goal.first_fault-requires-clause-index_in_bounds
first_fault-requires-clause-index_in_bounds c =
    let a = c.args in
    let C = clear (check_asks a.table.now a.c (length a.work.now)) a.table.now a.index.now [] (sym (ap number_of c.in_ok-test_audit.ensures)) in
    omega (arith, ltb-false _ _ C.numbers.room, C.rows)

pub returns : goal.returns
returns c =
    let a = c.args in
    let none = sym (ap number_of c.in_ok-test_audit.ensures) in
    let C = clear (check_asks a.table.now a.c (length a.work.now)) a.table.now a.index.now [] none in
    taken a.table.now a.c a.index.now a.work.now _ none C.rows c.first_fault.ensures.says c.first_fault.ensures.leaves
