-- What is left of the text leads to the same end.
use Rattle.sheet.proofs.feed.Given as goal
use Rattle.sheet_reading.proofs.Runs.{Fed}

abbrev pub invariant-loop-b : goal.invariant-loop-b
invariant-loop-b l = Fed l.fn.reader l.fn.table l.text l.r l.table l.b-index
