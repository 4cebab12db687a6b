-- `opened::leaf::open_leaf` meets its contract: after the turn for position p the rows of the run up to p are marked as an opened leaf's.
-- Assumes nothing.
use Rattle.std.proofs.Common.{arith, ap₂, refl, ℕ, ◌+◌, ◌∙◌}
use Rattle.leaf_decision.specs.Decision.{leaf_at}
use Rattle.marking.proofs.Fitted.{lent_same}
use Rattle.marking.proofs.Listed.{leaves-as, leaves_bare, leaves_by, span-end, span-next, span_none}
use Rattle.marking.specs.Listed.{span}
use Rattle.measure.specs.Table.{from}
use Rattle.opened.proofs.leaf.open_leaf.Goals as goal
use Rattle.rowset.proofs.Rows.{beyond}
use Rattle.rowset.specs.Sets.{is_in_lem}
use Rattle.words.specs.Words.{circles#, count#, start#}

pub loop-p-init : goal.loop-p-init
loop-p-init c =
    let nd = c.requires.lent.tested.shape.node c.args.k c.requires.k_bound.0 in
    record {
      lent = c.requires.lent;
      start = omega (arith, c.node_start-start.ensures.0);
      to = omega (arith, nd.some, c.node_count.ensures.0);
      done = span_none _ _ _ _ _ (omega (arith, c.node_start-start.ensures.0));
    }

pub leaf_row-requires : goal.leaf_row-requires
leaf_row-requires c =
    let nd = c.requires.lent.tested.shape.node c.args.k c.requires.k_bound.0 in
    record {
      lent = c.loop-p.invariant.lent;
      p_bound = (omega (arith, nd.run, c.node_start-start.ensures.0, c.node_count.ensures.0), c.requires.k_bound.1, c.pair_at-base.ensures);
    }

pub loop-p-preserved : goal.loop-p-preserved
loop-p-preserved c =
    let l = c.loop-p in
    let a = c.args in
    let w = a.index.now in
    let x : ℕ → ℕ → ℕ = λ o i. from a.table.now a.c o a.query.now i in
    let row = c.leaf_row in
    record {
      lent = lent_same l.invariant.lent _ row.auto.how;
      start = omega arith;
      to = omega arith;
      done =
          span-next _ (x (circles# w)) _ _ l.p l.invariant.start l.invariant.done
          (leaves_by (is_in_lem a.withdrawn.now) x (λ x. leaf_at x a.r w a.x l.p) c.circles-round.ensures row.ensures);
    }

pub open_bare-requires : goal.open_bare-requires
open_bare-requires c =
    let nd = c.requires.lent.tested.shape.node c.args.k c.requires.k_bound.0 in
    let bare = c.is_bare.ensures c.if-is_bare.true in
    record {
      lent = (c.requires.lent, bare.0);
      lo_le_hi = (omega (arith, nd.some, c.node_count.ensures.0), omega (arith, nd.run, c.node_start-start.ensures.0, c.node_count.ensures.0), c.requires.k_bound.1, c.pair_at-base.ensures);
    }

pub returns-then-is_bare : goal.returns-then-is_bare
returns-then-is_bare c =
    let a = c.args in
    let w = a.index.now in
    let set = a.withdrawn.now in
    let bare = c.is_bare.ensures c.if-is_bare.true in
    let x : ℕ → ℕ → ℕ = λ o i. from a.table.now a.c o a.query.now i in
    leaves_by (is_in_lem set) x
    (λ x. span (leaf_at x a.r w a.x) (start# w a.k + 1) (start# w a.k + count# w a.k)) c.circles-round.ensures
    (leaves-as (is_in_lem set) (x c.circles-round.result)
    (ap₂ (λ (i n : ℕ). span (leaf_at (x c.circles-round.result) a.r w a.x) (i + 1) (i + n)) c.node_start-start.ensures.0 c.node_count.ensures.0)
    (leaves_bare (is_in_lem set) (x c.circles-round.result) _ _ _ a.how.now (λ i. beyond set i (omega (arith, bare.1))) bare.2
    c.open_bare.ensures))

pub returns : goal.returns
returns c = span-end _ _ _ _ c.loop-p.p (omega (arith, c.node_start-start.ensures.0, c.node_count.ensures.0)) c.loop-p.invariant.done
