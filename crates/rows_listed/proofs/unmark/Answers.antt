-- `rows_listed::unmark` meets its contract: each round unmarks one row of the list.
use Rattle.std.proofs.Common.{arith}
use Rattle.rows_listed.proofs.MetRows.{listed-most, listed-row, unmark_done, unmark_start, unmark_step}
use Rattle.rows_listed.proofs.unmark.Goals as goal

pub loop-i-init : goal.loop-i-init
loop-i-init c = unmark_start _ _ _ _ c.requires _ (omega arith)

pub overflow_add-how : goal.overflow_add-how
overflow_add-how c = omega (arith, c.requires.small, listed-most _ _ _ _ c.requires)

pub offset_bounds-work-first : goal.offset_bounds-work-first
offset_bounds-work-first c = omega (arith, c.requires.small, listed-most _ _ _ _ c.requires)

pub bounds-work-first : goal.bounds-work-first
bounds-work-first c = omega (arith, c.requires.words, listed-most _ _ _ _ c.requires)

pub bounds-how-work : goal.bounds-how-work
bounds-how-work c = omega (arith, listed-row _ _ _ _ c.requires _ c.loop-i-test.true, c.requires.bytes, c.loop-i.invariant.bytes)

pub loop-i-preserved : goal.loop-i-preserved
loop-i-preserved c = unmark_step _ _ _ _ c.requires _ _ _ c.loop-i.invariant c.loop-i-test.true (omega arith)

pub returns : goal.returns
returns c = unmark_done _ _ _ _ c.requires _ _ c.loop-i.invariant (omega arith)
