-- `row_lines::past_blanks`: a byte that is no blank is found, or a blank is passed, or there are no more.
use Rattle.asking.proofs.Parting.{looking_end, looking_found, looking_next}
use Rattle.row_lines.proofs.past_blanks.Goals as goal
use Rattle.row_lines.specs.Lines.{past_blanks_lem}
use Rattle.std.proofs.Common.{◌∙◌, ◌≡◌, ap, arith, length, not}
use borrow.Author.Tests.{eq-eqb, ne_eqb}

pub returns-then-line-i-ne32 : goal.returns-then-line-i-ne32
unfolding past_blanks_lem
returns-then-line-i-ne32 c =
    let k = c.loop-i.invariant in
    (looking_found _ _ _ _ k c.loop-i-test.true (ap not (ne_eqb _ 32 c.if-line-i-ne32.true)), k.high)

pub loop-i-preserved : goal.loop-i-preserved
loop-i-preserved c = looking_next _ _ _ _ c.loop-i.invariant c.loop-i-test.true (ap not (eq-eqb _ 32 c.if-line-i-ne32.false))

pub returns : goal.returns
unfolding past_blanks_lem
returns c =
    let k = c.loop-i.invariant in
    let e : length c.args.line.now ≡ c.loop-i.i = omega (arith, k.high) in
    (e ∙ looking_end _ _ _ _ k c.loop-i-test.false, omega arith)
