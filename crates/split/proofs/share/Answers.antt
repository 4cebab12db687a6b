-- `split::share` meets its contract: one group more, and its node (`Sharing`).
use Rattle.std.proofs.Common.{rules, arith}
use Rattle.split.proofs.Sharing.{sharing-asked, sharing-done, sharing-small, sharing-step}
use Rattle.split.proofs.share.Goals as goal

pub gather-g-requires : goal.gather-g-requires
gather-g-requires c = sharing-asked c.loop-t.invariant.asked c.loop-t.invariant.so_far (omega arith)

pub overflow_cast-g : goal.overflow_cast-g
overflow_cast-g c =
    let small = sharing-small c.loop-t.invariant.asked c.loop-t.invariant.so_far (omega arith) c.gather-g.ensures in
    search rules

pub overflow_add-at : goal.overflow_add-at
overflow_add-at c =
    let small = sharing-small c.loop-t.invariant.asked c.loop-t.invariant.so_far (omega arith) c.gather-g.ensures in
    search rules

pub loop-t-preserved : goal.loop-t-preserved
loop-t-preserved c =
    let v = c.loop-t.invariant in
    record { asked = v.asked; so_far = sharing-step v.asked v.so_far (omega arith) c.gather-g.ensures c.put_node.ensures (search rules) (search rules) }

pub returns : goal.returns
returns c = sharing-done c.loop-t.invariant.asked c.loop-t.invariant.so_far (omega arith)
