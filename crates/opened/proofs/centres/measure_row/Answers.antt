-- `opened::centres::measure_row` meets its contract: the mark is that of the distance it has just measured. Assumes nothing.
use Rattle.marking.proofs.Listed.{leaves-full}
use Rattle.measure.specs.Table.{from}
use Rattle.opened.proofs.centres.measure_row.Goals as goal

pub returns-clause-marks : goal.returns-clause-marks
returns-clause-marks c =
    let a = c.args in
    leaves-full _ (from a.table.now a.c a.circles a.query.now) a.r a.row c.query_distance-x.ensures.0 c.mark_measured.ensures
