-- `labels::find_label`: the rows so far were looked at.
use Rattle.labels.proofs.Counting.{Counted}
use Rattle.labels.proofs.find_label.Given as goal
use Rattle.labels.specs.Labels.{labelled}

abbrev pub invariant-loop-i : goal.invariant-loop-i
invariant-loop-i l = Counted (labelled l.t l.starts l.column l.label) l.hits.count l.hits.row l.i
