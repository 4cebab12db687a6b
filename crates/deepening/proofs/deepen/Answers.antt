-- `deepening::deepen` meets its contract: the levels above `depth` are opened (`Goes`), and behind the last the whole tree stands. Assumes nothing.
use Rattle.deepening.proofs.Deepening.{goes-done, goes-level, goes_start, goes_step}
use Rattle.deepening.proofs.deepen.Goals as goal
use borrow.Author.Rules.{rules}
use mathlib.Core.Path.{refl}
use native.Mathlib.Omega.{arith}

pub loop-depth-init : goal.loop-depth-init
loop-depth-init c = (search rules, search rules, λ g. goes_start g)

pub level-made-requires : goal.level-made-requires
level-made-requires c = goes-level (c.loop-depth.invariant.2 c.requires) (search rules) refl

pub loop-depth-preserved : goal.loop-depth-preserved
loop-depth-preserved c =
    (search rules, search rules, λ g. goes_step (c.loop-depth.invariant.2 g) (search rules) refl c.level-made.ensures (omega arith))

pub returns : goal.returns
returns c = λ g. goes-done (c.loop-depth.invariant.2 g) (omega arith)
