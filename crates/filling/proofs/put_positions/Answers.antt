-- `filling::put_positions` meets its contract: the pair of one position more is written (`Pairing`).
use Rattle.std.proofs.Common.{rules, arith}
use Rattle.filling.proofs.Pairing.{pairing-done, pairing_step}
use Rattle.filling.proofs.put_positions.Goals as goal

pub loop-p-preserved : goal.loop-p-preserved
loop-p-preserved c = pairing_step c.loop-p.invariant (omega arith) (search rules) (search rules)

pub returns : goal.returns
returns c = pairing-done c.loop-p.invariant (omega arith)
