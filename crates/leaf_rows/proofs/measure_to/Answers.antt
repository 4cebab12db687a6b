-- `leaf_rows::measure_to` meets its contract: a number that is at most the ceiling is the distance, and one that is not is out as the distance is.
-- Assumes nothing.
use Rattle.leaf_rows.proofs.measure_to.Goals as goal
use Rattle.marking.proofs.Listed.{leaves_to}
use Rattle.measure.specs.Table.{from}

pub returns : goal.returns
returns c =
    let a = c.args in
    let q = c.query_distance_to-x.ensures in
    leaves_to _ (from a.table.now a.c a.circles a.query.now) a.r a.row q.given q.few c.mark_measured.ensures
