-- The digits so far, and those behind them, lead to the number.
use Rattle.std.proofs.Common.{◌<◌, ◌≡◌, drop}
use Rattle.asking.specs.Worth.{from}
use Rattle.asking.proofs.word_number.number.Given as goal

abbrev pub invariant-loop-b : goal.invariant-loop-b
invariant-loop-b l = (from l.value (drop l.b-index l.word) ≡ from 0 l.word) × (l.value < 10000000)
