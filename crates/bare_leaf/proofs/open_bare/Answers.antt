-- `bare_leaf::open_bare` meets its contract: after the turn for position p the rows up to p are marked as an opened leaf's.
-- Assumes nothing.
use Rattle.std.proofs.Common.{arith, refl, ◌∙◌}
use Rattle.bare_leaf.proofs.open_bare.Goals as goal
use Rattle.marking.proofs.Fitted.{lent_same}
use Rattle.marking.proofs.Written.{marked-end, marked_next, marked-none, write-plain}

pub loop-p-init : goal.loop-p-init
loop-p-init c = record {
  lent = c.requires.lent.0;
  long = refl;
  begun = omega arith;
  to = omega arith;
  done = marked-none _ _ _ _ _ refl;
}

pub bare_row-requires : goal.bare_row-requires
bare_row-requires c =
    let l = c.loop-p in
    let bound = c.requires.lo_le_hi in
    record {
      lent = (l.invariant.lent, omega (arith, l.invariant.long, c.requires.lent.1));
      p_bound = (omega (arith, bound.1), bound.2, bound.3);
    }

pub loop-p-preserved : goal.loop-p-preserved
loop-p-preserved c =
    let l = c.loop-p in
    let b = c.bare_row in
    let k = b.auto.how in
    record {
      lent = lent_same l.invariant.lent _ k;
      long = k ∙ l.invariant.long;
      begun = omega arith;
      to = omega arith;
      done = marked_next _ _ _ l.p _ l.invariant.begun l.invariant.done (b.ensures ∙ write-plain _ _ _);
    }

pub returns : goal.returns
returns c = marked-end _ _ _ c.loop-p.p _ (omega arith) c.loop-p.invariant.done
