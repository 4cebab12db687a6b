-- What is put stays inside the buffer.
use Rattle.std.proofs.Common.{◌≤◌, ◌≡◌, length}
use Rattle.answer_lines.proofs.showing.say_answers.Given as goal

abbrev pub invariant-loop-row : goal.invariant-loop-row
invariant-loop-row l = (4096 ≡ length l.out) × (l.at ≤ 4096)
