-- `groups::pick` meets its contract: an entry of the centre is written behind those before it, and any other is skipped (`Picks`).
use Rattle.std.proofs.Common.{rules, arith, length-drop, length-take}
use Rattle.groups.proofs.Picks.{picks_done, picks-fits, picks-skip, picks_start, picks-take}
use Rattle.groups.proofs.pick.Goals as goal

pub loop-p-init : goal.loop-p-init
loop-p-init c = picks_start c.requires

pub put_entry-requires : goal.put_entry-requires
put_entry-requires c =
    let room = picks-fits c.loop-p.invariant (search rules) (search rules) in
    simp (length-take, length-drop) (omega arith)

pub loop-p-preserved-then-work-at : goal.loop-p-preserved-then-work-at
loop-p-preserved-then-work-at c =
    rw (c.max-radius.ensures, c.least_of-inner.ensures) (picks-take c.loop-p.invariant _ (search rules) (search rules) c.put_entry.ensures)

pub loop-p-preserved : goal.loop-p-preserved
loop-p-preserved c = picks-skip c.loop-p.invariant (search rules) c.if-work-at.false

pub returns : goal.returns
returns c = picks_done c.loop-p.invariant (search rules)
