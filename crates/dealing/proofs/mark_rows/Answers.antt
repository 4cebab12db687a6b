-- `dealing::mark_rows` meets its contract: the rows before word p are marked (`Marking`).
-- Assumes nothing.
use Rattle.dealing.proofs.Marking.{marking-done, marking-fits, marking-kid, marking-lent}
use Rattle.dealing.proofs.Marking.{marking-long, marking-measured, marking-room, marking-start, marking_step}
use borrow.Author.Rules.{rules}
use native.Mathlib.Omega.{arith}
use Rattle.dealing.proofs.mark_rows.Goals as goal

pub loop-p-init : goal.loop-p-init
loop-p-init c = λ T. marking-start T

pub closest_child-k-requires : goal.closest_child-k-requires
closest_child-k-requires c =
    let T = c.requires in record { new_row = (marking-lent T (c.loop-p.invariant T) (omega arith) c.word-z.ensures.0).0; k_bound = (T.there, T.inner) }

pub overflow_add-child : goal.overflow_add-child
overflow_add-child c =
    let T = c.requires in
    let r = marking-kid T (c.loop-p.invariant T) c.closest_child-k.ensures.1 c.node_child-child.ensures.0 in
    omega (arith, r)

pub node_first-requires : goal.node_first-requires
node_first-requires c =
    let T = c.requires in record { in_shape = T.shape; k_bound = (marking-kid T (c.loop-p.invariant T) c.closest_child-k.ensures.1 c.node_child-child.ensures.0).0 }

pub row_distance-d-requires : goal.row_distance-d-requires
row_distance-d-requires c =
    let T = c.requires in
    marking-measured T (c.loop-p.invariant T) (omega arith) c.word-z.ensures.0 c.node_first.ensures.1

pub offset_bounds-part-p : goal.offset_bounds-part-p
offset_bounds-part-p c =
    let T = c.requires in
    let r = marking-fits T (c.loop-p.invariant T) (omega arith) in
    omega (arith, r)

pub slice_bounds-put_entry-count : goal.slice_bounds-put_entry-count
slice_bounds-put_entry-count c =
    let T = c.requires in
    let r = marking-fits T (c.loop-p.invariant T) (omega arith) in
    omega (arith, r)

pub slice_bounds-put_entry-start : goal.slice_bounds-put_entry-start
slice_bounds-put_entry-start c =
    let T = c.requires in
    let r = marking-fits T (c.loop-p.invariant T) (omega arith) in
    omega (arith, r)

pub slice_bounds-put_entry-end : goal.slice_bounds-put_entry-end
slice_bounds-put_entry-end c =
    let T = c.requires in
    let r = marking-fits T (c.loop-p.invariant T) (omega arith) in
    omega (arith, r)

pub overflow_cast-k : goal.overflow_cast-k
overflow_cast-k c =
    let T = c.requires in
    let r = marking-kid T (c.loop-p.invariant T) c.closest_child-k.ensures.1 c.node_child-child.ensures.0 in
    omega (arith, r)

pub put_entry-requires : goal.put_entry-requires
put_entry-requires c =
    let T = c.requires in
    marking-room T (c.loop-p.invariant T) (omega arith)

pub overflow_add-p : goal.overflow_add-p
overflow_add-p c =
    let T = c.requires in
    let r = marking-fits T (c.loop-p.invariant T) (omega arith) in
    omega (arith, r)

pub loop-p-smaller : goal.loop-p-smaller
loop-p-smaller c =
    let T = c.requires in
    let r = marking-fits T (c.loop-p.invariant T) (omega arith) in
    search rules

pub loop-p-preserved : goal.loop-p-preserved
loop-p-preserved c =
    λ T. marking_step T (c.loop-p.invariant T) _ (omega arith) c.word-z.ensures.0 c.closest_child-k.ensures.0
    c.node_child-child.ensures.0
    c.node_first.ensures.0 c.circles-set.ensures c.row_distance-d.ensures.0 c.put_entry.ensures

pub shape_of-part : goal.shape_of-part
shape_of-part c =
    let T = c.requires in
    marking-long T (c.loop-p.invariant T)

pub returns : goal.returns
returns c =
    let T = c.requires in
    marking-done T (c.loop-p.invariant T) (omega arith)
