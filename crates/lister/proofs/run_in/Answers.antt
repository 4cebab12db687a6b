-- A text that is read says three numbers or more, and these are listed.
use Rattle.limits.proofs.Outcomes.{said_by-some}
use Rattle.lister.proofs.Listed.{runs-listed, runs-unread}
use Rattle.lister.proofs.run_in.Goals as goal
use Rattle.std.proofs.Common.{refl}
use Rattle.std.proofs.lemmas.Result.{err_from_is_err_and}
use Rattle.text_reading.proofs.Outcome.{zero-reads}

pub returns-in_err-count : goal.returns-in_err-count
returns-in_err-count g c =
    let p = err_from_is_err_and c.from_residual.result c.from_residual.ensures.1 in
    rw (p.1, p.2) (runs-unread c.read_text-n.ensures c.in_err-count.ensures (said_by-some _) refl)

pub list-requires : goal.list-requires
list-requires g c = (zero-reads _ _ _ _ _ c.in_ok-count.ensures refl).0.enough

pub returns : goal.returns
returns g c = runs-listed c.read_text-n.ensures c.in_ok-count.ensures refl c.list.ensures
