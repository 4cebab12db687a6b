-- `row_lines::is_any_full`: a blank line is passed, or one is not blank, or there are no more.
use Rattle.row_lines.proofs.Places.{going_end, going-full, going_next, going_start, less}
use Rattle.row_lines.proofs.is_any_full.Goals as goal

pub loop-at-init : goal.loop-at-init
loop-at-init c = let pre = c.requires in going_start pre.0 pre.1 pre.2

pub returns-then-not-is_blank : goal.returns-then-not-is_blank
returns-then-not-is_blank c = going-full c.loop-at.invariant c.loop-at-test.true c.line_at.ensures c.is_blank.ensures c.if-not-is_blank.true

pub loop-at-smaller : goal.loop-at-smaller
loop-at-smaller c = less _ c.next_line-at.ensures.0 c.loop-at-test.true

pub loop-at-preserved : goal.loop-at-preserved
loop-at-preserved c =
    going_next c.loop-at.invariant c.loop-at-test.true c.line_at.ensures c.is_blank.ensures c.if-not-is_blank.false c.next_line-at.ensures.0
    c.next_line-at.ensures.2

pub returns : goal.returns
returns c = going_end c.loop-at.invariant c.loop-at-test.false
