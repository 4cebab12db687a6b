-- `column_choice::choose_all`: no more columns than there can be.
use Rattle.column_choice.proofs.choose_all.Given as goal
use Rattle.std.proofs.Common.{◌≤◌}

abbrev pub invariant-loop-i : goal.invariant-loop-i
invariant-loop-i l = l.choice.k ≤ 16
