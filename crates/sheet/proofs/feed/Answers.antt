-- A turn reads one byte, and what is left leads to the same end.
use Rattle.sheet.proofs.feed.Goals as goal
use Rattle.sheet_reading.proofs.Runs.{fed-end, fed-next, fed_start}
use Rattle.std.proofs.Common.{rules}
use mathlib.Core.Path.{ap}

pub loop-b-init : goal.loop-b-init
loop-b-init c = fed_start _ _ _

pub loop-b-preserved : goal.loop-b-preserved
loop-b-preserved c = fed-next _ _ _ _ _ _ c.loop-b.invariant _ _ (search rules) c.step-r.ensures.0 c.step-r.ensures.1 (search rules)

pub returns : goal.returns
returns c =
    let e = fed-end _ _ _ _ _ _ c.loop-b.invariant (search rules) in
    (ap (λ s. s.0) e, ap (λ s. s.1) e)
