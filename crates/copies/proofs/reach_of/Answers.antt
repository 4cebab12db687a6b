-- `copies::reach_of` meets its contract: a run that holds node v's reaches to the row that has come too, any other as far as it did. Assumes nothing.
use Rattle.std.proofs.lemmas.Bool.{not_from_false, not_from_true}
use Rattle.copies.proofs.Copies.{measurable, reach-apart, reach-more, reach_none}
use Rattle.copies.proofs.reach_of.Goals as goal
use Rattle.copies.proofs.reach_of.Goals.{then-not-holds_run-via-then-not-holds_run, then-not-holds_run-via-else-not-holds_run+then-p-eq0}
use borrow.Author.Tests.{not-false, not-true}
use native.Mathlib.Omega.{arith}

pub returns-then-not-holds_run : goal.returns-then-not-holds_run
returns-then-not-holds_run c =
    elim c.then-not-holds_run.branch [
      | then-not-holds_run-via-then-not-holds_run w ↦
          reach-apart _ _ _ _ _ c.node_radius-radius.ensures c.node_inner-inner.ensures c.holds_run.ensures
          (not-true _ (not_from_false _ w.if-not-holds_run.true))
      | then-not-holds_run-via-else-not-holds_run+then-p-eq0 w ↦
          reach_none _ _ _ _ _ c.node_radius-radius.ensures c.node_inner-inner.ensures c.holds_run.ensures
          (not-false _ (not_from_true _ w.if-not-holds_run.false)) w.if-p-eq0.true
    ]

pub row_distance-d-requires : goal.row_distance-d-requires
row_distance-d-requires c =
    measurable c.requires.change c.columns.ensures.0 c.rows.ensures.0 (omega (arith, c.node_first.ensures.1)) c.if-p-eq0.false

pub returns : goal.returns
returns c =
    let some = (c.requires.change.shape.node c.args.k c.requires.k_bound).some in
    reach-more _ _ _ _ _ c.node_radius-radius.ensures c.node_inner-inner.ensures c.holds_run.ensures
    (not-false _ (not_from_true _ c.if-not-holds_run.false)) c.if-p-eq0.false c.node_first.ensures.0 c.rows.ensures.0
    c.columns.ensures.0 c.circles.ensures c.row_distance-d.ensures.0 c.node_count.ensures.0 some c.max.ensures c.least_of.ensures
