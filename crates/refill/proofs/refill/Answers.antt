-- `refill::refill` meets its contract: the nodes, the header before them and the positions behind them are the words of the tree.
-- Assumes nothing.
use Prim.Native.Nat.{◌*◌, ◌+◌}
use Rattle.refill.proofs.Refilling.{refilled}
use Rattle.refill.proofs.Wording.{mid_long}
use borrow.Author.Rules.{rules}
use native.Mathlib.Omega.{arith}
use Rattle.refill.proofs.refill.Goals as goal

pub put_header-requires : goal.put_header-requires
put_header-requires c =
    let g = c.requires in
    let W = g.change.shape.whole in (
      omega (arith, g.space),
      omega (arith, g.change.rows, c.rows.ensures.0),
      omega (arith, W.columns.1, c.columns.ensures.0),
      omega (arith, W.fan.1, c.centres.ensures.0),
      omega (arith, W.leaf.1, c.leaf_size.ensures.0),
      omega (arith, (c.regrow-made.ensures g).few, g.change.rows),
    )

pub overflow_mul-at : goal.overflow_mul-at
overflow_mul-at c =
    let g = c.requires in
    omega (arith, (c.regrow-made.ensures g).few, g.space, g.change.rows)

pub overflow_add-at : goal.overflow_add-at
overflow_add-at c =
    let g = c.requires in
    omega (arith, (c.regrow-made.ensures g).few, g.space, g.change.rows)

pub offset_bounds-room-at : goal.offset_bounds-room-at
offset_bounds-room-at c =
    let g = c.requires in
    omega (arith, (c.regrow-made.ensures g).few, g.space, g.change.rows)

pub slice_bounds-put_pairs-count : goal.slice_bounds-put_pairs-count
slice_bounds-put_pairs-count c =
    let g = c.requires in
    omega (arith, (c.regrow-made.ensures g).few, g.space, g.change.rows)

pub slice_bounds-put_pairs-start : goal.slice_bounds-put_pairs-start
slice_bounds-put_pairs-start c =
    let g = c.requires in
    omega (arith, (c.regrow-made.ensures g).few, g.space, g.change.rows)

pub put_pairs-requires : goal.put_pairs-requires
put_pairs-requires c =
    let g = c.requires in record {
      in_shape = g.change.shape;
      pairing = record {
        there = g.change.there;
        rows = g.change.rows;
        space = omega (arith, (c.regrow-made.ensures g).few, g.space, mid_long (8 + 5 * c.regrow-made.result) c.put_header.new.room);
        entries = omega (arith, g.halves);
      };
    }

pub returns : goal.returns
returns c =
    λ g. refilled g (c.regrow-made.ensures g) (search rules) (omega (arith, c.rows.ensures.0)) c.columns.ensures.0
    (omega (arith, c.circles.ensures)) c.centres.ensures.0
    c.leaf_size.ensures.0 c.put_header.ensures c.put_pairs.ensures
