-- `refilling::take_in` meets its contract: the new rows before z are laid (`Taking`).
-- Assumes nothing.
use Rattle.refilling.proofs.Taking.{new-distance, new-measured, taking-done, taking-room, taking_start, taking_step}
use borrow.Author.Rules.{rules}
use native.Mathlib.Omega.{arith}
use Rattle.refilling.proofs.take_in.Goals as goal

pub loop-z-init : goal.loop-z-init
loop-z-init c =
    let s = c.requires in
    taking_start _ _ _ _ s.task.more c.rows-z.ensures.0 c.node_radius-radius.ensures c.node_inner-inner.ensures

pub row_distance-d-requires : goal.row_distance-d-requires
row_distance-d-requires c =
    new-measured c.requires.task c.columns-c.ensures.0 c.node_first-first.ensures.1 (omega arith)

pub slice_bounds-put_entry-count : goal.slice_bounds-put_entry-count
slice_bounds-put_entry-count c =
    omega (arith, c.loop-z.invariant.long, c.requires.bound.1)

pub slice_bounds-put_entry-start : goal.slice_bounds-put_entry-start
slice_bounds-put_entry-start c =
    omega (arith, c.loop-z.invariant.long, c.requires.bound.1)

pub put_entry-requires : goal.put_entry-requires
put_entry-requires c =
    taking-room _ _ _ _ c.loop-z.invariant (omega arith) c.requires.bound.1

pub loop-z-preserved : goal.loop-z-preserved
loop-z-preserved c =
    let s = c.requires in
    taking_step _ _ _ _ c.loop-z.invariant s.bound.0 (omega arith) s.bound.1
    (new-distance s.task _ _ (omega arith) c.columns-c.ensures.0 c.circles-set.ensures c.node_first-first.ensures.0 c.row_distance-d.ensures.0)
    c.max-radius.ensures c.least_of-inner.ensures c.put_entry.ensures (search rules)

pub shape_of-work : goal.shape_of-work
shape_of-work c =
    c.loop-z.invariant.long

pub returns : goal.returns
returns c =
    taking-done _ _ _ _ c.loop-z.invariant (omega arith)
