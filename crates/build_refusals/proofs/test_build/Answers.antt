-- What numbers refuse comes first, and then the circles decide.
use Rattle.build_refusals.proofs.Refusals.{circles-last, few-columns, numbers-say}
use Rattle.build_refusals.proofs.test_build.Goals as goal
use Rattle.std.proofs.lemmas.Result.{err_from_is_err_and}
use mathlib.Core.Path.{ap, refl, sym}

pub returns-in_err-test_writer : goal.returns-in_err-test_writer
returns-in_err-test_writer c =
    let p = err_from_is_err_and c.from_residual.result c.from_residual.ensures.1 in
    rw (p.1, p.2) (numbers-say _ _ _ _ _ _ _ c.in_err-test_writer.ensures)

pub test_circles-requires : goal.test_circles-requires
test_circles-requires c =
    let a = c.args in
    few-columns a.table.now a.c a.circles a.unfit a.room a.work refl (sym (ap (λ s. s.0) c.in_ok-test_writer.ensures))

pub returns : goal.returns
returns c = circles-last _ _ _ _ _ _ c.in_ok-test_writer.ensures c.test_circles.ensures
