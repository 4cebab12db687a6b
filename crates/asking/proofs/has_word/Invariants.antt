-- None of the words so far is this one.
use Rattle.std.proofs.Common.{false, ◌≡◌}
use Rattle.asking.specs.Words.{has_word_lem}
use Rattle.asking.proofs.has_word.Given as goal

abbrev pub invariant-loop-i : goal.invariant-loop-i
invariant-loop-i l = false ≡ has_word_lem l.words l.word l.i
