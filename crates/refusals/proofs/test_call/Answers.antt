-- What numbers decide comes first, then what the index decides, then what the circles decide.
use Rattle.limits.proofs.Numbers.{passed}
use Rattle.refusals.proofs.Refusals.{circles-last, index_says, numbers-say}
use Rattle.refusals.proofs.test_call.Goals as goal
use Rattle.std.proofs.lemmas.Result.{err_from_is_err_and}
use Rattle.words.proofs.InShape.{header_there}
use Rattle.words.proofs.Indexes.{fit-tests}
use Rattle.words.specs.Words.{words_ok_lem}
use mathlib.Core.Path.{ap, refl, sym}

pub returns-in_err-test_numbers : goal.returns-in_err-test_numbers
returns-in_err-test_numbers c =
    let p = err_from_is_err_and c.from_residual.result c.from_residual.ensures.1 in
    rw (p.1, p.2) (numbers-say _ _ _ _ _ c.in_err-test_numbers.ensures)

pub returns-in_err-test_index : goal.returns-in_err-test_index
returns-in_err-test_index c =
    let p = err_from_is_err_and c.from_residual-in_err-test_index.result c.from_residual-in_err-test_index.ensures.1 in
    rw (p.1, p.2) (index_says _ _ _ _ c.in_ok-test_numbers.ensures c.rows_in-n.ensures refl _ c.in_err-test_index.ensures)

pub circles-requires : goal.circles-requires
circles-requires c =
    (header_there c.args.index.now (fit-tests (words_ok_lem c.args.index.now) c.args.index.now _ _
    (sym (ap (λ s. s.0) c.in_ok-test_index.ensures))).0)

pub test_circles-requires : goal.test_circles-requires
test_circles-requires c = (passed c.args.asked (sym (ap (λ s. s.0) c.in_ok-test_numbers.ensures))).table.few

pub returns : goal.returns
returns c =
    circles-last _ _ _ _ c.in_ok-test_numbers.ensures c.rows_in-n.ensures refl c.in_ok-test_index.ensures c.circles.ensures
    c.test_circles.ensures
