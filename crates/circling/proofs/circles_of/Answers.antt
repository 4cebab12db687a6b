-- `circling::circles_of`: an item is right, or the first that is wrong, or none is.
use Rattle.circle_columns.proofs.Items.{circled-right, circled-wrong, code_of-some, right-next, right-none, trouble-none}
use Rattle.circling.proofs.circles_of.Goals as goal
use Rattle.circling.proofs.circles_of.Goals.{in-Some+in_default-test_item, in_default}
use Rattle.std.proofs.Common.{arith, refl}

pub loop-i-init : goal.loop-i-init
loop-i-init c = right-none _ _ _ _ _

pub returns-in-Err : goal.returns-in-Err
returns-in-Err c = circled-wrong _ _ _ _ _ c.loop-i.invariant (omega arith) c.in-Some.ensures c.in-Err.ensures (code_of-some c.in-Err.fault)

pub loop-i-preserved : goal.loop-i-preserved
loop-i-preserved c =
    elim c.match-piece_at.branch [
      | in-Some+in_default-test_item w ↦ right-next _ _ _ _ _ c.loop-i.invariant w.in_default-test_item.ensures refl
      | in_default w ↦ right-next _ _ _ _ _ c.loop-i.invariant (trouble-none _ _ _ _ _ _ w.in_default.ensures) refl
    ]

pub returns : goal.returns
returns c = circled-right _ _ _ _ _ c.loop-i.invariant (omega arith) c.set_of.ensures
