-- `columns::choice::first_over`: a product that is not too great is passed by, and the first that is one is named.
use Rattle.column_products.proofs.Choosing.{over-here, over_none, over-on}
use Rattle.columns.proofs.choice.first_over.Goals as goal
use Rattle.std.proofs.Common.{arith}

pub loop-j-init : goal.loop-j-init
loop-j-init c = over_none _ _ _ _

pub returns-then-from-product-clause-place : goal.returns-then-from-product-clause-place
returns-then-from-product-clause-place c =
    over-here _ _ _ _ _ c.loop-j.invariant c.most.ensures (omega (arith, c.product.ensures, c.from.ensures)) (omega arith)

pub loop-j-preserved : goal.loop-j-preserved
loop-j-preserved c = over-on _ _ _ _ c.loop-j.invariant c.most.ensures (omega (arith, c.product.ensures, c.from.ensures))
