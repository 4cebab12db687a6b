-- An option waits for its value where one does behind the words so far.
use Rattle.std.proofs.Common.{is_some, ◌≡◌}
use Rattle.asking.specs.Words.{waits}
use Rattle.asking.proofs.ask.Given as goal

abbrev pub invariant-loop-i : goal.invariant-loop-i
invariant-loop-i l = is_some l.reading.waiting ≡ waits l.words l.i
