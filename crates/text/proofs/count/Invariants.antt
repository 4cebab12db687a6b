use Rattle.text.proofs.Passes.{Counted}
use Rattle.text.proofs.count.Given as goal

-- the numbers passed are counted, and the reader stands behind them
abbrev pub invariant-loop-b : goal.invariant-loop-b
invariant-loop-b l = Counted l.text l.place l.count l.b-index
