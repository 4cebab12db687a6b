-- `sweeping::sweep_list` meets its contract: after the turn for position p the rows up to p are listed, save those withdrawn.
-- Assumes nothing.
use Rattle.std.proofs.Common.{arith, refl, ℕ, ◌∙◌}
use Rattle.std.proofs.lemmas.Bool.{not_from_false, not_from_true}
use Rattle.marking.proofs.Listed.{leaves-gone, leaves-same, leaves_in}
use Rattle.rowset.specs.Sets.{is_in_lem}
use Rattle.sweeping.proofs.Sweeps.{listing-done, listing-low, listing-next, listing_start}
use Rattle.sweeping.proofs.sweep_list.Goals as goal
use Rattle.sweeping.proofs.sweep_list.Goals.{else-not-is_in, then-not-is_in}
use borrow.Author.Tests.{not-false, not-true}

pub loop-p-init : goal.loop-p-init
loop-p-init c =
    let r = c.requires in
    listing_start (is_in_lem c.args.withdrawn.now) r.in_shape.0 r.in_shape.1 r.lo_le_hi.0 r.lo_le_hi.1

pub enter-requires : goal.enter-requires
enter-requires c = listing-low c.loop-p.invariant (omega arith) c.word-row.ensures.0

pub loop-p-preserved : goal.loop-p-preserved
loop-p-preserved c =
    let l = c.loop-p in
    elim c.if-not-is_in.branch [
      | then-not-is_in w ↦
          listing-next l.invariant (omega arith) c.word-row.ensures.0 c.if-not-is_in.auto.list
          (leaves_in _ (λ (i : ℕ). 0) _ c.is_in.ensures (not-true _ (not_from_false _ w.if-not-is_in.true)) refl (w.list-is ∙ w.enter.ensures))
      | else-not-is_in w ↦
          listing-next l.invariant (omega arith) c.word-row.ensures.0 c.if-not-is_in.auto.list
          (leaves-same _ (λ (i : ℕ). 0) refl w.list-is
          (leaves-gone _ (λ (i : ℕ). 0) _ c.is_in.ensures (not-false _ (not_from_true _ w.if-not-is_in.false))))
    ]

pub returns : goal.returns
returns c = listing-done c.loop-p.invariant (omega arith)
