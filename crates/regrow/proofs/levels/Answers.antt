-- `regrow::levels` meets its contract: the levels above `depth` are opened (`Goes`), and behind the last the whole tree stands.
-- Assumes nothing.
use Rattle.regrow.proofs.Going.{goes-done, goes-level, goes_start, goes_step}
use borrow.Author.Rules.{rules}
use Rattle.regrow.proofs.levels.Goals as goal

pub loop-init : goal.loop-init
loop-init c = (search rules, search rules, λ g. goes_start g)

pub level-made-requires : goal.level-made-requires
level-made-requires c =
    goes-level c.requires (c.loop.invariant.2 c.requires) (search rules)

pub loop-preserved : goal.loop-preserved
loop-preserved c =
    (search rules, search rules, λ g. goes_step g (c.loop.invariant.2 g) (search rules) c.level-made.ensures)

pub returns : goal.returns
returns c = λ g. goes-done g (c.loop.invariant.2 g) (search rules)
