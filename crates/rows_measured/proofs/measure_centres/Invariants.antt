-- Each round measures one centre.
use Rattle.measure.specs.Table.{from}
use Rattle.nearest_steps.proofs.Growing.{CentresTo}
use Rattle.rows_listed.specs.Listed.{ListedTo}
use Rattle.rowset.specs.Sets.{is_in_lem}
use Rattle.words.specs.Words.{circles#}
use Rattle.rows_measured.proofs.measure_centres.Given as goal

abbrev pub invariant-loop-j : goal.invariant-loop-j
invariant-loop-j l =
    CentresTo (from l.table l.c (circles# l.index) l.query) (is_in_lem l.withdrawn) l.index l.n l.w l.initial.how l.how l.initial.work l.work l.a l.e l.j l.held l.seen.held × ListedTo l.n l.how l.work l.seen.next
