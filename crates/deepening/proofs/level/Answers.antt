-- `deepening::level` meets its contract: the nodes before k are opened (`Turn`), and behind the last the stage is one level down.
-- Assumes nothing.
use Rattle.deepening.proofs.Levelling.{levelling-done, levelling-open, levelling-start, levelling-step}
use borrow.Author.Rules.{rules}
use Rattle.deepening.proofs.level.Goals as goal

pub loop-k-init : goal.loop-k-init
loop-k-init c = (search rules, search rules, λ g. levelling-start g)

pub open_piece-made-requires : goal.open_piece-made-requires
open_piece-made-requires c =
    let g = c.requires in
    levelling-open g (c.loop-k.invariant.2 g) (search rules)

pub loop-k-preserved : goal.loop-k-preserved
loop-k-preserved c =
    (search rules, search rules, λ g. levelling-step g (c.loop-k.invariant.2 g) (search rules) (search rules) c.open_piece-made.ensures)

pub returns : goal.returns
returns c = λ g. levelling-done g (c.loop-k.invariant.2 g) (search rules)
