-- A refusal leaves the set, and else the order is carried out.
use Rattle.limits.proofs.Outcomes.{said_by-some}
use Rattle.orders.proofs.Outcomes.{clear-has, done_order, refused_order}
use Rattle.orders.proofs.restore.Goals as goal
use Rattle.orders.specs.Orders.{restoring}
use Rattle.std.proofs.lemmas.Result.{err_from_is_err_and}
use mathlib.Core.Path.{ap, refl, sym}
use Rattle.std.proofs.Common.{rules}

pub returns-in_err-test_order : goal.returns-in_err-test_order
returns-in_err-test_order c =
    let p = err_from_is_err_and c.from_residual.result c.from_residual.ensures.1 in
    rw (p.1, p.2) (refused_order (restoring _) (search rules) (ap (λ s. s.0) c.in_err-test_order.ensures) (said_by-some _))

pub restore_row-requires : goal.restore_row-requires
restore_row-requires c = clear-has _ _ _ (sym (ap (λ s. s.0) c.in_ok-test_order.ensures))

pub returns : goal.returns
returns c =
    done_order (restoring _) (search rules) (ap (λ s. s.0) c.in_ok-test_order.ensures) refl refl
    c.restore_row.ensures
