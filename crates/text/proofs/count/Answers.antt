-- a turn passes one byte, and what ends there is counted
use Rattle.limits.specs.Limits.{within}
use Rattle.std.proofs.Common.{◌∙◌, ap, arith, sym}
use Rattle.text.proofs.Passes.{counted-done, counted_start, counted_step, ended_few}
use Rattle.text.proofs.count.Goals as goal
use Rattle.text.proofs.count.Goals.{else-may_end-via-else-may_end, else-may_end-via-then-may_end+else-is_within}
use Rattle.text_reading.proofs.Answers.{all-counted, none-counted, not-counted}
use Rattle.text_reading.specs.Reading.{ends}

pub loop-b-init : goal.loop-b-init
loop-b-init c = counted_start _

pub overflow_add-count : goal.overflow_add-count
overflow_add-count c = omega (arith, ended_few _ _ c.ended-count.ensures)

pub loop-b-preserved : goal.loop-b-preserved
loop-b-preserved c = counted_step _ _ _ _ c.loop-b.invariant _ _ c.loop-b-test.true c.step-place.ensures c.ended-count.ensures

pub overflow_add-count-2 : goal.overflow_add-count-2
overflow_add-count-2 c = omega (arith, ended_few _ _ c.ended-count-2.ensures)

pub returns-then-is_within : goal.returns-then-is_within
returns-then-is_within c =
    let all = counted-done _ _ _ _ c.loop-b.invariant _ c.loop-b-test.false c.ended-count-2.ensures in
    all.0
    ∙ all-counted _ (ap ends (sym all.1) ∙ sym c.may_end.ensures ∙ c.if-may_end.true)
    (ap (within 3 1_027) (sym all.0) ∙ sym c.is_within.ensures ∙ c.if-is_within.true)

pub returns-else-may_end : goal.returns-else-may_end
returns-else-may_end c =
    let all = counted-done _ _ _ _ c.loop-b.invariant _ c.loop-b-test.false c.ended-count-2.ensures in
    elim c.else-may_end.branch [
      | else-may_end-via-then-may_end+else-is_within w ↦
          not-counted _ (ap (within 3 1_027) (sym all.0) ∙ sym w.is_within.ensures ∙ w.if-is_within.false)
      | else-may_end-via-else-may_end w ↦ none-counted _ (ap ends (sym all.1) ∙ sym c.may_end.ensures ∙ w.if-may_end.false)
    ]
