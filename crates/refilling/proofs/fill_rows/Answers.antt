-- `refilling::fill_rows` meets its contract: the root, the levels below it, the header, the positions, and the cleared workspace. Assumes nothing.
use Rattle.refilling.proofs.Joining.{few-nodes, header-ready, planted, positions-ready, root-ask, rows-joined}
use Rattle.refilling.proofs.fill_rows.Goals as goal
use borrow.Author.Rules.{rules}
use lib.ListN.{length}
use mathlib.Core.Path.{◌≡◌}
use native.Mathlib.Omega.{arith}

pub root-requires : goal.root-requires
root-requires c = root-ask c.requires c.rows_in-n.ensures

pub deepen-nodes-requires : goal.deepen-nodes-requires
deepen-nodes-requires c = planted c.requires c.rows_in-n.ensures c.root.ensures

pub put_header-requires : goal.put_header-requires
put_header-requires c =
    let wide : length c.deepen-nodes.new.room ≡ length c.args.room.now = search rules in
    header-ready c.requires c.rows_in-n.ensures c.root.ensures c.deepen-nodes.ensures c.centres.ensures.0 c.leaf_size.ensures.0 wide (omega arith)

pub overflow_mul-at : goal.overflow_mul-at
overflow_mul-at c = omega (arith, few-nodes c.requires c.rows_in-n.ensures c.root.ensures c.deepen-nodes.ensures)

pub overflow_add-at : goal.overflow_add-at
overflow_add-at c = omega (arith, few-nodes c.requires c.rows_in-n.ensures c.root.ensures c.deepen-nodes.ensures)

pub offset_bounds-room-at : goal.offset_bounds-room-at
offset_bounds-room-at c = omega (arith, few-nodes c.requires c.rows_in-n.ensures c.root.ensures c.deepen-nodes.ensures)

pub slice_bounds-put_positions-count : goal.slice_bounds-put_positions-count
slice_bounds-put_positions-count c =
    let long : length c.put_header.new.room ≡ length c.args.room.now = search rules in
    omega (arith, few-nodes c.requires c.rows_in-n.ensures c.root.ensures c.deepen-nodes.ensures)

pub slice_bounds-put_positions-start : goal.slice_bounds-put_positions-start
slice_bounds-put_positions-start c =
    let long : length c.put_header.new.room ≡ length c.args.room.now = search rules in
    omega (arith, few-nodes c.requires c.rows_in-n.ensures c.root.ensures c.deepen-nodes.ensures)

pub put_positions-requires : goal.put_positions-requires
put_positions-requires c =
    let long : length c.put_header.new.room ≡ length c.args.room.now = search rules in
    let half : length c.deepen-nodes.new.work ≡ length c.args.work.now = search rules in
    positions-ready c.requires c.rows_in-n.ensures c.root.ensures c.deepen-nodes.ensures c.put_header.new.room long half

pub returns : goal.returns
returns c =
    let long : length c.put_header.new.room ≡ length c.args.room.now = search rules in
    let half : length c.deepen-nodes.new.work ≡ length c.args.work.now = search rules in
    rows-joined c.requires c.rows_in-n.ensures c.root.ensures c.deepen-nodes.ensures c.circles.ensures c.centres.ensures.0 c.leaf_size.ensures.0
    (omega arith) long c.put_header.ensures (omega arith) c.put_positions.ensures half (search rules)
