-- Unless a bit was found, every word passed is zero. Assumes nothing.
use Rattle.std.proofs.Common.{ℕ, get_or, ◌<◌, ◌≡◌, false}
use Rattle.rows_withdrawn.proofs.some_on.Given as goal

abbrev pub invariant-loop-word : goal.invariant-loop-word
invariant-loop-word l = l.on ≡ false → (k : ℕ) → k < l.word-index → get_or l.set k 0 ≡ 0
