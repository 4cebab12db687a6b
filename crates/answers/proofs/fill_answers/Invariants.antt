-- After i turns the first i are the records made so far, and the rest stands. Assumes nothing.
use Rattle.std.proofs.Common.{◌≤◌, ◌≡◌, ◌++◌, drop}
use Rattle.answers.specs.Records.{records}
use Rattle.answers.proofs.fill_answers.Given as goal

abbrev pub invariant-loop-i : goal.invariant-loop-i
invariant-loop-i l =
    (l.i ≤ l.count) × (l.answers ≡ records l.rows l.distances l.i ++ drop l.i l.initial.answers)
