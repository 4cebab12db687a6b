-- `columns::choice::chosen_row`: what is taken more, and what is taken at last.
use Rattle.column_products.proofs.Laying.{taken-all, taken_next, taken_start}
use Rattle.columns.proofs.choice.chosen_row.Goals as goal
use Rattle.std.proofs.Common.{arith, refl}

pub loop-j-init : goal.loop-j-init
loop-j-init c = taken_start _ refl c.requires.choice c.requires.small

pub loop-j-preserved : goal.loop-j-preserved
loop-j-preserved c = taken_next c.loop-j.invariant (omega arith) c.product.ensures

pub returns : goal.returns
returns c = taken-all c.loop-j.invariant (omega arith)
