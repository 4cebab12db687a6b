-- `sweeping::sweep_shown` meets its contract: after the turn for position p the rows up to p are marked 2, save those withdrawn.
-- Assumes nothing.
use Rattle.std.proofs.Common.{arith, ap, length, ◌∙◌}
use Rattle.std.proofs.lemmas.Bool.{not_from_false, not_from_true}
use Rattle.marking.proofs.Written.{mark-gone, mark-in}
use Rattle.rowset.specs.Sets.{is_in_lem}
use Rattle.sweeping.proofs.Sweeps.{sweep-done, sweep-low, sweep-next, sweep_start}
use Rattle.sweeping.proofs.sweep_shown.Goals as goal
use Rattle.sweeping.proofs.sweep_shown.Goals.{else-not-is_in, then-not-is_in}
use borrow.Author.Tests.{not-false, not-true}
use lib.ListN.{length-set}

pub loop-p-init : goal.loop-p-init
loop-p-init c =
    let r = c.requires in
    sweep_start (is_in_lem c.args.withdrawn.now) r.in_shape.0 r.in_shape.1 r.lo_le_hi.0 r.lo_le_hi.1 r.lo_le_hi.2

pub bounds-how-row : goal.bounds-how-row
bounds-how-row c = sweep-low c.loop-p.invariant (omega arith) c.word-row.ensures.0

pub loop-p-preserved : goal.loop-p-preserved
loop-p-preserved c =
    let l = c.loop-p in
    elim c.if-not-is_in.branch [
      | then-not-is_in w ↦
          sweep-next l.invariant (omega arith) c.word-row.ensures.0 (ap length w.how-is ∙ length-set l.how c.word-row.result 2)
          (w.how-is ∙ mark-in _ _ _ c.is_in.ensures (not-true _ (not_from_false _ w.if-not-is_in.true)))
      | else-not-is_in w ↦
          sweep-next l.invariant (omega arith) c.word-row.ensures.0 (ap length w.how-is)
          (w.how-is ∙ mark-gone _ _ _ c.is_in.ensures (not-false _ (not_from_true _ w.if-not-is_in.false)))
    ]

pub returns : goal.returns
returns c = sweep-done c.loop-p.invariant (omega arith)
