-- `sweeping::sweep_all` meets its contract: after the turn for position p the rows up to p are marked 2. Assumes nothing.
use Rattle.std.proofs.Common.{arith, refl, ℕ, false}
use Rattle.marking.proofs.Written.{mark-in}
use Rattle.sweeping.proofs.Sweeps.{sweep-done, sweep-low, sweep-next, sweep_start}
use Rattle.sweeping.proofs.sweep_all.Goals as goal
use lib.ListN.{length-set}

pub loop-p-init : goal.loop-p-init
loop-p-init c =
    let r = c.requires in
    sweep_start (λ (i : ℕ). false) r.in_shape.0 r.in_shape.1 r.lo_le_hi.0 r.lo_le_hi.1 r.lo_le_hi.2

pub bounds-how-row : goal.bounds-how-row
bounds-how-row c = sweep-low c.loop-p.invariant (omega arith) c.word-row.ensures.0

pub loop-p-preserved : goal.loop-p-preserved
loop-p-preserved c =
    let l = c.loop-p in
    sweep-next l.invariant (omega arith) c.word-row.ensures.0 (length-set l.how c.word-row.result 2) (mark-in (λ (i : ℕ). false) _ _ refl refl)

pub returns : goal.returns
returns c = sweep-done c.loop-p.invariant (omega arith)
