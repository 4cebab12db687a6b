use Rattle.text.proofs.Passes.{Filled}
use Rattle.text.proofs.fill.Given as goal

-- the numbers passed stand at the front of the room, and nothing has changed behind them
abbrev pub invariant-loop-b : goal.invariant-loop-b
invariant-loop-b l = Filled l.text l.fn.room l.room l.place l.at l.b-index
