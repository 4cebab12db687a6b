-- `withdrawing::withdraw`: the first line, one more, and what is left at each return.
use Rattle.row_lines.proofs.Places.{less}
use Rattle.row_lines.specs.Rows.{row_trouble_lem}
use Rattle.std.proofs.Common.{◌∙◌, ap, refl, sym}
use Rattle.withdrawing.proofs.Reading.{code_of-some, reading-blank, reading-end, reading-next, reading-rest, reading_start, reading-wrong}
use Rattle.withdrawing.proofs.withdraw.Goals as goal

pub loop-at-init : goal.loop-at-init
loop-at-init c = reading_start (sym c.set_bad.ensures ∙ c.if-set_bad.false) c.text_start-at.ensures.0 c.text_start-at.ensures.1

pub returns-then-is_any_full : goal.returns-then-is_any_full
returns-then-is_any_full c =
    reading-blank c.loop-at.invariant c.loop-at-test.true c.line_at-line.ensures c.is_blank.ensures c.if-is_blank.true c.is_any_full.ensures
    c.if-is_any_full.true

pub returns-then-is_blank : goal.returns-then-is_blank
returns-then-is_blank c =
    reading-rest c.loop-at.invariant c.loop-at-test.true c.line_at-line.ensures c.is_blank.ensures c.if-is_blank.true c.is_any_full.ensures
    c.if-is_any_full.false

pub returns-in-Err : goal.returns-in-Err
returns-in-Err c =
    reading-wrong c.loop-at.invariant c.loop-at-test.true c.line_at-line.ensures c.is_blank.ensures c.if-is_blank.false refl c.in-Err.ensures.trouble
    (code_of-some c.in-Err.fault)

pub loop-at-smaller : goal.loop-at-smaller
loop-at-smaller c = less _ c.next_line-at.ensures.0 c.loop-at-test.true

pub loop-at-preserved : goal.loop-at-preserved
loop-at-preserved c =
    let e = c.in-Ok.ensures in
    reading-next c.loop-at.invariant c.loop-at-test.true c.line_at-line.ensures c.is_blank.ensures c.if-is_blank.false e.row.0
    (e.trouble ∙ ap (row_trouble_lem c.args.n) (sym e.row.0)) refl c.strike.ensures c.next_line-at.ensures.0 c.next_line-at.ensures.2

pub returns : goal.returns
returns c = reading-end c.loop-at.invariant c.loop-at-test.false
