-- `rounds::choose` meets its contract: each round leaves one centre more at the front (`Choosing`).
use Rattle.std.proofs.Common.{arith}
use Rattle.rounds.proofs.Choosing.{choosing_done, choosing_start, choosing-step}
use Rattle.rounds.proofs.choose.Goals as goal

pub loop-r-init : goal.loop-r-init
loop-r-init c =
    choosing_start _ _ _ _ c.args.run.now c.requires.le_m.0 c.requires.le_m.1 c.requires.le_m.2 c.requires.c_le_max_columns.1

pub loop-r-preserved : goal.loop-r-preserved
loop-r-preserved c = choosing-step c.loop-r.invariant _ (omega arith) c.round.ensures

pub returns : goal.returns
returns c = choosing_done c.loop-r.invariant (omega arith)
