-- `rows_measured::measure_row` meets its contract: the row is marked and listed, and entered at its distance unless it is withdrawn or too far.
-- What was measured is given of the query's distance, which is at most 1,048,560.
use Rattle.std.proofs.Common.{arith, refl, ◌≤◌}
use Rattle.limits.specs.Limits.{max_distance}
use Rattle.measure.proofs.Capped.{capped-from}
use Rattle.measure.proofs.Rows.{from-query}
use Rattle.measure.specs.Table.{from}
use Rattle.nearest_steps.proofs.OneRow.{exact, last-listed, room-to-enter, stands-listed, too_far, took-listed}
use Rattle.rows_measured.proofs.measure_row.Goals as goal

pub returns-then-far-d : goal.returns-then-far-d
returns-then-far-d c =
    let a = c.args in
    let pre = c.requires in
    let row = c.row_of.ensures.0 in
    let given = capped-from _ a.table.now a.c a.circles a.r row a.query.now pre.ready.query c.distance_to-d.ensures.given in
    let few : from a.table.now a.c a.circles a.query.now a.r ≤ max_distance =
    omega (arith, c.distance_to-d.ensures.few, from-query a.table.now a.c a.circles a.r row a.query.now pre.ready.query refl) in
    let M = c.mark_row-next.ensures in
    let S = stands-listed _ _ _ _ _ _ _ pre.ready.stands _ pre.r_lt_n.0 _ _ _ M in
    took-listed _ _ _ _ _ _ _ pre.ready.stands _ pre.r_lt_n.0 _ _ _ M few _ _
    (too_far _ _ _ _ _ _ _ S _ pre.r_lt_n.0 _ refl few
    (omega (arith, given, c.last-far.ensures, last-listed _ _ _ _ _ _ _ pre.ready.stands _ pre.r_lt_n.0 _ _ _ M)))

pub enter_row-held-requires : goal.enter_row-held-requires
enter_row-held-requires c =
    let pre = c.requires in
    let there = stands-listed _ _ _ _ _ _ _ pre.ready.stands _ pre.r_lt_n.0 _ _ _ c.mark_row-next.ensures in
    (room-to-enter _ _ _ _ _ _ _ there _ pre.r_lt_n.0, pre.r_lt_n.0, pre.ready.stands.small)

pub returns : goal.returns
returns c =
    let a = c.args in
    let pre = c.requires in
    let row = c.row_of.ensures.0 in
    let given = capped-from _ a.table.now a.c a.circles a.r row a.query.now pre.ready.query c.distance_to-d.ensures.given in
    let few : from a.table.now a.c a.circles a.query.now a.r ≤ max_distance =
    omega (arith, c.distance_to-d.ensures.few, from-query a.table.now a.c a.circles a.r row a.query.now pre.ready.query refl) in
    let M = c.mark_row-next.ensures in
    let S = stands-listed _ _ _ _ _ _ _ pre.ready.stands _ pre.r_lt_n.0 _ _ _ M in
    let whole = exact _ _ _ given few (omega arith) in
    took-listed _ _ _ _ _ _ _ pre.ready.stands _ pre.r_lt_n.0 _ _ _ M few _ _
    (c.enter_row-held.ensures (from a.table.now a.c a.circles a.query.now) a.how.now S whole (omega (arith, whole, few)))
