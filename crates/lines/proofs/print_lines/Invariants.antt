use Rattle.std.proofs.Common.{◌≤◌, length}
use Rattle.lines.proofs.print_lines.Given as goal

-- the words so far fill no more than the text has room for
abbrev pub invariant-loop-i : goal.invariant-loop-i
invariant-loop-i l = l.at ≤ length l.text
