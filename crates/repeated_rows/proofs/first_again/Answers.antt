-- the mark says whether the row stood before
use Rattle.laws.proofs.First.{first-at-end, search-end}
use Rattle.repeated_rows.proofs.Marks.{marks-found, marks-more, marks_start, row-marked}
use Rattle.repeated_rows.proofs.first_again.Goals as goal
use Rattle.std.proofs.Common.{arith}

pub loop-p-init : goal.loop-p-init
loop-p-init c = marks_start _ _ c.requires.clear

pub offset_bounds-work-row : goal.offset_bounds-work-row
offset_bounds-work-row c = omega (arith, row-marked c.requires.in_shape c.loop-p.invariant (omega arith) c.row_at-row.ensures.0)

pub bounds-work-row : goal.bounds-work-row
bounds-work-row c = row-marked c.requires.in_shape c.loop-p.invariant (omega arith) c.row_at-row.ensures.0

pub offset_bounds-work-row-in-loop-p : goal.offset_bounds-work-row-in-loop-p
offset_bounds-work-row-in-loop-p c = omega (arith, row-marked c.requires.in_shape c.loop-p.invariant (omega arith) c.row_at-row.ensures.0)

pub bounds-work-row-in-loop-p : goal.bounds-work-row-in-loop-p
bounds-work-row-in-loop-p c = row-marked c.requires.in_shape c.loop-p.invariant (omega arith) c.row_at-row.ensures.0

pub returns-then-work-row-ne0-clause-first : goal.returns-then-work-row-ne0-clause-first
returns-then-work-row-ne0-clause-first c =
    marks-found c.requires.in_shape c.loop-p.invariant (omega arith) c.row_at-row.ensures.0 c.if-work-row-ne0.true

pub loop-p-preserved : goal.loop-p-preserved
loop-p-preserved c =
    marks-more c.requires.in_shape c.loop-p.invariant (omega arith) c.row_at-row.ensures.0 c.if-work-row-ne0.false

pub returns-clause-first : goal.returns-clause-first
returns-clause-first c =
    first-at-end _ 0 _ c.loop-p.p (omega arith)
    (search-end _ 0 _ c.loop-p.p (omega (arith, c.loop-p.invariant.to)) c.loop-p.invariant.once)
