-- `growing::level` meets its contract: one node more is opened (`Turn`), and behind the last the stage is one level down.
use Rattle.std.proofs.Common.{rules, arith}
use Rattle.growing.proofs.Levelling.{levelling-done, levelling-open, levelling-start, levelling-step}
use Rattle.growing.proofs.level.Goals as goal

pub loop-k-init : goal.loop-k-init
loop-k-init c = record { rooms = search rules; works = search rules; turn = λ g. levelling-start g }

pub open_node-made-requires : goal.open_node-made-requires
open_node-made-requires c = levelling-open c.requires (c.loop-k.invariant.turn c.requires) (omega arith)

pub loop-k-preserved : goal.loop-k-preserved
loop-k-preserved c =
    record {
      rooms = search rules;
      works = search rules;
      turn = λ g. levelling-step g (c.loop-k.invariant.turn g) (omega arith) (search rules) c.open_node-made.ensures;
    }

pub returns : goal.returns
returns c = λ g. levelling-done g (c.loop-k.invariant.turn g) (omega arith)
