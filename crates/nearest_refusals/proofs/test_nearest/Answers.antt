-- It asks what the definition asks, in its order.
use Rattle.limits.specs.Refusal.{said_by}
use Rattle.limits.specs.Said.{said}
use Rattle.nearest_refusals.proofs.Refusals.{call_says, set-says}
use Rattle.nearest_refusals.proofs.test_nearest.Goals as goal
use Rattle.nearest_refusals.specs.Numbers.{nearest_asks}
use Rattle.refusals.specs.Refused.{call_faults}
use Rattle.std.proofs.lemmas.Result.{err_from_is_err_and}
use mathlib.Core.Path.{◌∙◌, ◌≡◌, sym}

pub returns-in_err-test_call : goal.returns-in_err-test_call
returns-in_err-test_call c =
    let a = c.args in
    let p = err_from_is_err_and c.from_residual.result c.from_residual.ensures.1 in
    let says : said_by c.in_err-test_call.field-0.0 ≡ said (call_faults (nearest_asks a.table.now a.c a.query.now a.wanted a.room a.how a.work) a.table.now a.index.now a.query.now) =
    rw (c.is_short.ensures, c.min.ensures, c.rows_in-n.ensures) at c.in_err-test_call.ensures in
    rw (p.1, p.2) (call_says _ _ _ _ _ _ _ _ _ _ says)

pub returns-then-set_bad : goal.returns-then-set_bad
returns-then-set_bad c =
    let a = c.args in
    let says : (0, 0, 0) ≡ said (call_faults (nearest_asks a.table.now a.c a.query.now a.wanted a.room a.how a.work) a.table.now a.index.now a.query.now) = rw (c.is_short.ensures, c.min.ensures, c.rows_in-n.ensures) at c.in_ok-test_call.ensures in
    set-says _ _ _ _ _ _ _ _ _ says c.rows_in-n.ensures (sym c.set_bad.ensures ∙ c.if-set_bad.true)

pub returns : goal.returns
returns c =
    let a = c.args in
    let says : (0, 0, 0) ≡ said (call_faults (nearest_asks a.table.now a.c a.query.now a.wanted a.room a.how a.work) a.table.now a.index.now a.query.now) = rw (c.is_short.ensures, c.min.ensures, c.rows_in-n.ensures) at c.in_ok-test_call.ensures in
    set-says _ _ _ _ _ _ _ _ _ says c.rows_in-n.ensures (sym c.set_bad.ensures ∙ c.if-set_bad.false)
