-- `build::build` meets its contract: what is refused leaves both rooms as they were, and what is not is filled in.
use Rattle.std.proofs.Common.{rules, arith, ◌∙◌, ap, length, sym}
use Rattle.std.specs.Prelude.{is_some}
use Rattle.build.proofs.Outcomes.{built_builds, built_room, columns_some, part_long, passed_of, refused_builds, rows-most, said_is, unfit_is, unfit_passed, work_long}
use Rattle.build.proofs.build.Goals as goal
use Rattle.limits.proofs.Outcomes.{said_by-some}
use Rattle.limits.specs.Said.{Said}
use Rattle.std.proofs.lemmas.Result.{err_from_is_err_and}

pub returns-in_err-test_build : goal.returns-in_err-test_build
returns-in_err-test_build c =
    let a = c.args in
    let p = err_from_is_err_and c.from_residual.result c.from_residual.ensures.1 in
    rw (p.1, p.2) (refused_builds (ap (λ (s : Said). s.0)
    (said_is a.table.now a.c a.circles a.edition a.m a.l (length a.room.now) (length a.work.now)
    (unfit_is c.new-chosen.result c.is_none.result a.c a.m a.l a.circles a.edition c.is_none.ensures c.new-chosen.ensures) c.in_err-test_build.ensures)) (said_by-some _))

pub returns-in_default : goal.returns-in_default
returns-in_default c =
    let a = c.args in
    absurd (unfit_passed a.table.now a.c a.circles (length a.room.now) (length a.work.now) c.is_none.result
    (sym (ap is_some c.in_default.is) ∙ c.is_none.ensures) c.in_ok-test_build.ensures)

pub nonzero_div-n : goal.nonzero_div-n
nonzero_div-n c =
    let some = columns_some (passed_of c.args.table.now c.args.c c.args.circles c.args.edition c.args.m c.args.l c.args.room.now c.args.work.now c.is_none.result c.in-Some.is c.is_none.ensures c.new-chosen.ensures c.in_ok-test_build.ensures) in
    search rules

pub overflow_mul-used : goal.overflow_mul-used
overflow_mul-used c =
    let rows = rows-most (passed_of c.args.table.now c.args.c c.args.circles c.args.edition c.args.m c.args.l c.args.room.now c.args.work.now c.is_none.result c.in-Some.is c.is_none.ensures c.new-chosen.ensures c.in_ok-test_build.ensures) in
    search rules

pub slice_bounds-fill-end : goal.slice_bounds-fill-end
slice_bounds-fill-end c =
    let long = work_long (passed_of c.args.table.now c.args.c c.args.circles c.args.edition c.args.m c.args.l c.args.room.now c.args.work.now c.is_none.result c.in-Some.is c.is_none.ensures c.new-chosen.ensures c.in_ok-test_build.ensures) in
    search rules

pub slice_bounds-fill-end-2 : goal.slice_bounds-fill-end-2
slice_bounds-fill-end-2 c = sym (part_long (passed_of c.args.table.now c.args.c c.args.circles c.args.edition c.args.m c.args.l c.args.room.now c.args.work.now c.is_none.result c.in-Some.is c.is_none.ensures c.new-chosen.ensures c.in_ok-test_build.ensures))

pub fill-nodes-requires : goal.fill-nodes-requires
fill-nodes-requires c = built_room (passed_of c.args.table.now c.args.c c.args.circles c.args.edition c.args.m c.args.l c.args.room.now c.args.work.now c.is_none.result c.in-Some.is c.is_none.ensures c.new-chosen.ensures c.in_ok-test_build.ensures)

pub written-requires : goal.written-requires
written-requires c = (rows-most (passed_of c.args.table.now c.args.c c.args.circles c.args.edition c.args.m c.args.l c.args.room.now c.args.work.now c.is_none.result c.in-Some.is c.is_none.ensures c.new-chosen.ensures c.in_ok-test_build.ensures), c.fill-nodes.ensures.few)

pub returns : goal.returns
returns c =
    built_builds (passed_of c.args.table.now c.args.c c.args.circles c.args.edition c.args.m c.args.l c.args.room.now c.args.work.now c.is_none.result c.in-Some.is c.is_none.ensures c.new-chosen.ensures c.in_ok-test_build.ensures)
    (λ i. omega (arith, c.shared_slice_known-1.given i)) c.fill-nodes.ensures (search rules) c.written.ensures
