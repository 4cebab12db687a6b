-- `rows_measured::measure_centre` meets its contract: the row is marked and listed, and entered at its distance unless it is withdrawn; the
-- distance is kept as it was measured.
use Rattle.std.proofs.Common.{arith, refl}
use Rattle.measure.specs.Table.{from}
use Rattle.nearest_steps.proofs.OneRow.{centre-listed, centred, room-to-enter, stands-listed, took-listed}
use Rattle.rows_measured.proofs.measure_centre.Goals as goal

pub enter_row-held-requires : goal.enter_row-held-requires
enter_row-held-requires c =
    let pre = c.requires in
    let there = stands-listed _ _ _ _ _ _ _ pre.ready.stands _ pre.r_lt_n.0 _ _ _ c.mark_row-next.ensures in
    (room-to-enter _ _ _ _ _ _ _ there _ pre.r_lt_n.0, pre.r_lt_n.0, pre.ready.stands.small)

pub returns : goal.returns
returns c =
    let a = c.args in
    let pre = c.requires in
    let d = c.query_distance-d.ensures in
    let M = c.mark_row-next.ensures in
    let S = stands-listed _ _ _ _ _ _ _ pre.ready.stands _ pre.r_lt_n.0 _ _ _ M in
    let g = took-listed _ _ _ _ _ _ _ pre.ready.stands _ pre.r_lt_n.0 _ _ _ M (omega (arith, d.0, d.1)) _ _
    (c.enter_row-held.ensures (from a.table.now a.c a.circles a.query.now) a.how.now S d.0 d.1) in (
      centred _ _ _ _ _ _ _ _ _ _ _ _ _ pre.r_lt_n.0 g.0 d.0 refl,
      centre-listed _ _ _ _ _ _ _ _ _ _ _ _ _ pre.r_lt_n.0 g.0 d.0 refl g.1,
    )
