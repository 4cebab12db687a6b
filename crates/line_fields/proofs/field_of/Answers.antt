-- `line_fields::field_of`: the first field, one more, and the one that is asked for.
use Rattle.std.proofs.Common.{arith}
use Rattle.line_fields.proofs.Spans.{passing_end, passing_next, passing_start}
use Rattle.line_fields.proofs.field_of.Goals as goal

pub loop-init : goal.loop-init
loop-init c = (passing_start c.pass-start.ensures.0 c.pass-end.ensures.0 c.pass-end.ensures.1 c.pass-end.ensures.2, omega arith)

pub loop-preserved : goal.loop-preserved
loop-preserved c =
    let start = c.pass-start-in-loop.ensures in
    let end = c.pass-end-in-loop.ensures in
    (passing_next c.loop.invariant.0 start.0 end.0 end.1 end.2, omega (arith, c.loop-test.true))

pub returns-then-start-end : goal.returns-then-start-end
returns-then-start-end c =
    let p = c.loop.invariant.0 in
    let spot = passing_end c.args.column p (omega (arith, c.loop-test.false, c.loop.invariant.0.some, c.loop.invariant.1)) in
    record { starts = spot.0; ends = spot.1; some = omega arith; inside = p.inside }

pub returns-else-start-end : goal.returns-else-start-end
returns-else-start-end c =
    let spot = passing_end c.args.column c.loop.invariant.0 (omega (arith, c.loop-test.false, c.loop.invariant.0.some, c.loop.invariant.1)) in
    omega (arith, spot.0, spot.1)
