-- `nearest::within` meets its contract: a refusal changes nothing; else the core searches for as many as there can be.
use Rattle.std.proofs.Common.{ap, arith, refl}
use Rattle.limits.proofs.Outcomes.{said_by-some}
use Rattle.limits.specs.Said.{Said}
use Rattle.nearest_steps.specs.Asked.{asks, lends}
use Rattle.nearest.proofs.Contract.{core-asks, done-is, refused_is, room_is}
use Rattle.std.proofs.lemmas.Result.{err_from_is_err_and}
use Rattle.nearest.proofs.within.Goals as goal

pub returns-in_err-test_nearest : goal.returns-in_err-test_nearest
returns-in_err-test_nearest c =
    let a = c.args in
    let p = err_from_is_err_and c.from_residual.result c.from_residual.ensures.1 in
    let asked = asks a.table.now a.c a.index.now a.query.now a.wanted a.withdrawn.now in
    let lent = lends a.rows.now a.distances.now a.how.now a.work.now in
    rw (p.1, p.2) (room_is (omega arith)
    (refused_is asked lent (omega arith, omega arith) (ap (λ (s : Said). s.0) c.in_err-test_nearest.ensures) (said_by-some _)))

pub rows-n-requires : goal.rows-n-requires
rows-n-requires c =
    let a = c.args in
    let asked = asks a.table.now a.c a.index.now a.query.now a.wanted a.withdrawn.now in
    let lent = lends a.rows.now a.distances.now a.how.now a.work.now in
    omega (
      arith,
      (core-asks asked lent (omega arith, omega arith) (ap (λ (s : Said). s.0) c.in_ok-test_nearest.ensures) _ _ refl refl refl).tested.shape.whole.words,
    )

pub find-found-requires : goal.find-found-requires
find-found-requires c =
    let a = c.args in
    let asked = asks a.table.now a.c a.index.now a.query.now a.wanted a.withdrawn.now in
    let lent = lends a.rows.now a.distances.now a.how.now a.work.now in
    core-asks asked lent (omega arith, omega arith) (ap (λ (s : Said). s.0) c.in_ok-test_nearest.ensures) _ _ refl c.rows-n.ensures.0 (omega arith)

pub returns : goal.returns
returns c =
    let a = c.args in
    let asked = asks a.table.now a.c a.index.now a.query.now a.wanted a.withdrawn.now in
    let lent = lends a.rows.now a.distances.now a.how.now a.work.now in
    room_is (omega arith)
    (done-is asked lent (omega arith, omega arith) (ap (λ (s : Said). s.0) c.in_ok-test_nearest.ensures) _ _ _ _ _ _ _ refl c.rows-n.ensures.0
    (omega arith) c.find-found.ensures refl refl)
