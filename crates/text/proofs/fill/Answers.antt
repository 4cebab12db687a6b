-- a turn passes one byte, and what ends there is put
use Rattle.text.proofs.Passes.{filled-done, filled_start, filled-step, room-end, room_next}
use Rattle.text.proofs.fill.Goals as goal
use Rattle.std.proofs.Common.{arith}

pub loop-b-init : goal.loop-b-init
loop-b-init c = filled_start _ _

pub put_ended-at-requires : goal.put_ended-at-requires
put_ended-at-requires c = room_next _ _ _ _ _ _ c.loop-b.invariant c.requires c.loop-b-test.true

pub loop-b-preserved : goal.loop-b-preserved
loop-b-preserved c =
    filled-step _ _ _ _ _ _ c.loop-b.invariant c.requires _ _ _ c.loop-b-test.true c.step-place.ensures c.put_ended-at.ensures.0
    c.put_ended-at.ensures.1

pub put_ended-requires : goal.put_ended-requires
put_ended-requires c = room-end _ _ _ _ _ _ c.loop-b.invariant c.requires c.loop-b-test.false

pub returns : goal.returns
returns c =
    (filled-done _ _ _ _ _ _ c.loop-b.invariant c.requires _ _ c.loop-b-test.false c.put_ended.ensures.0 c.put_ended.ensures.1).0
