-- `bare_leaf::measured_byte` meets its contract: what is below one more than the ceiling is within r. Assumes nothing.
use Rattle.std.proofs.Common.{arith}
use Rattle.bare_leaf.proofs.Bytes.{far_byte, near_byte}
use Rattle.bare_leaf.proofs.measured_byte.Goals as goal
use Rattle.measure.specs.Table.{from}

pub returns-then-d-over : goal.returns-then-d-over
returns-then-d-over c =
    let a = c.args in
    let d = c.query_distance_to-d.ensures in
    near_byte (from a.table.now a.c a.circles a.query.now) a.r a.row c.min-over.ensures d.given d.few (omega arith)

pub returns-else-d-over : goal.returns-else-d-over
returns-else-d-over c =
    let a = c.args in
    let d = c.query_distance_to-d.ensures in
    far_byte (from a.table.now a.c a.circles a.query.now) a.r a.row c.min-over.ensures d.given d.few (omega arith)
