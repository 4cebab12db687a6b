-- The byte is found, or it is another, or there are no more.
use Rattle.std.proofs.Common.{length, ◌≡◌}
use Rattle.asking.proofs.Parting.{looking_end, looking_found, looking_next}
use Rattle.asking.proofs.pieces.end_from.Goals as goal
use borrow.Author.Tests.{eq-eqb, ne_eqb}
use mathlib.Core.Path.{◌∙◌}
use native.Mathlib.Omega.{arith}

pub returns-then-t-i : goal.returns-then-t-i
returns-then-t-i c =
    let k = c.loop-i.invariant in
    (looking_found _ _ _ _ k c.loop-i-test.true (eq-eqb _ _ c.if-t-i.true), k.low, k.high)

pub loop-i-preserved : goal.loop-i-preserved
loop-i-preserved c = looking_next _ _ _ _ c.loop-i.invariant c.loop-i-test.true (ne_eqb _ _ c.if-t-i.false)

pub returns : goal.returns
returns c =
    let k = c.loop-i.invariant in
    let e : length c.args.t.now ≡ c.loop-i.i = omega (arith, k.high) in
    (e ∙ looking_end _ _ _ _ k c.loop-i-test.false, c.requires, omega arith)
