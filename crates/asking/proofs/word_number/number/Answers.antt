-- Each return has its test.
use Rattle.std.proofs.Common.{inl, inr}
use Rattle.asking.proofs.Worths.{behind-digit, behind-most, behind-other, counted-end, counted_next, counted_none}
use Rattle.asking.proofs.word_number.number.Goals as goal
use borrow.Author.Tests.{eqb-false}
use mathlib.Core.Path.{sym}
use native.Mathlib.Omega.{arith}

pub returns-in_default : goal.returns-in_default
returns-in_default c =
    counted_none _ _ _ c.loop-b.invariant.0 c.loop-b-test.true (behind-other _ _ (inl (omega arith)))

pub returns-in_default-2 : goal.returns-in_default-2
returns-in_default-2 c =
    counted_none _ _ _ c.loop-b.invariant.0 c.loop-b-test.true (behind-other _ _ (inr (omega arith)))

pub returns-then-value-ge-NO_NUMBER : goal.returns-then-value-ge-NO_NUMBER
returns-then-value-ge-NO_NUMBER c =
    counted_none _ _ _ c.loop-b.invariant.0 c.loop-b-test.true
    (behind-most _ _ (omega arith, omega arith) c.from.ensures c.if-value-ge-NO_NUMBER.true)

pub loop-b-preserved : goal.loop-b-preserved
loop-b-preserved c = (
  counted_next _ _ _ c.loop-b.invariant.0 c.loop-b-test.true _
      (behind-digit _ _ (omega arith, omega arith) c.from.ensures c.if-value-ge-NO_NUMBER.false),
  c.if-value-ge-NO_NUMBER.false,
)

pub returns : goal.returns
returns c =
    let some = eqb-false _ _ (sym c.if-is_empty.ensures) in
    (counted-end _ _ _ c.loop-b.invariant.0 c.loop-b-test.false (omega (arith, some)), c.loop-b.invariant.1)
