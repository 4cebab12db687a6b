-- `line_fields::pass`: a byte that stops is found, or passed, or there are no more.
use Rattle.std.proofs.Common.{◌∙◌, ◌≡◌, arith, length, sym}
use Rattle.asking.proofs.Parting.{looking_end, looking_found, looking_next}
use Rattle.line_fields.proofs.pass.Goals as goal

pub returns-then-stops : goal.returns-then-stops
returns-then-stops c =
    let k = c.loop-i.invariant in
    (looking_found _ _ _ _ k c.loop-i-test.true (sym c.stops.ensures ∙ c.if-stops.true), k.low, k.high)

pub loop-i-preserved : goal.loop-i-preserved
loop-i-preserved c = looking_next _ _ _ _ c.loop-i.invariant c.loop-i-test.true (sym c.stops.ensures ∙ c.if-stops.false)

pub returns : goal.returns
returns c =
    let k = c.loop-i.invariant in
    let e : length c.args.line.now ≡ c.loop-i.i = omega (arith, k.high) in
    (e ∙ looking_end _ _ _ _ k c.loop-i-test.false, c.requires, omega arith)
