-- `opened::centres::least_of` meets its contract: after each turn y is the least of the distances passed. Assumes nothing.
use Rattle.std.proofs.Common.{arith, ap, get_or, length, refl, take, ◌∙◌, ◌≡◌}
use Rattle.laws.specs.Lists.{least}
use Rattle.opened.proofs.Distances.{least-next}
use Rattle.opened.proofs.centres.least_of.Goals as goal
use lib.Seq.{take-length}

pub loop-d-init : goal.loop-d-init
loop-d-init c = refl

pub loop-d-preserved : goal.loop-d-preserved
loop-d-preserved c = least-next _ _ c.loop-d.d-index (omega arith) c.loop-d.invariant (omega (arith, c.min-y.ensures))

pub returns : goal.returns
returns c =
    let items = take c.args.m c.args.distances in
    let e : c.loop-d.d-index ≡ length items = omega arith in
    let all : take c.loop-d.d-index items ≡ items = rw (e, take-length) in
    c.loop-d.invariant ∙ ap (least (get_or c.args.distances 0 0)) all
