-- `opened::centres::open_inner` meets its contract: after the turn for centre j the centres 1 .. j are marked and their distances stand in the array.
-- Assumes nothing.
use Rattle.std.proofs.Common.{arith, ap, refl, sym, List, ℕ, ◌*◌, ◌+◌, ◌<◌, ◌∙◌, ◌≡◌, ◌≤◌}
use Rattle.laws.proofs.Gathered.{holds_more, holds-one}
use Rattle.limits.specs.Limits.{max_distance}
use Rattle.marking.proofs.Did.{centre-did}
use Rattle.marking.proofs.Fitted.{lent_same, measurable}
use Rattle.marking.proofs.Listed.{leaves-as, leaves_by, span-end, span-next, span_none}
use Rattle.marking.specs.Lent.{Lent}
use Rattle.marking.specs.Marks.{first_at}
use Rattle.measure.specs.Table.{from}
use Rattle.opened.proofs.centres.open_inner.Goals as goal
use Rattle.rowset.specs.Sets.{is_in_lem}
use Rattle.tree.specs.Radius.{by_distance}
use Rattle.words.proofs.Positions.{row_word}
use Rattle.words.specs.Words.{nodes#, at, circles#, first#, n#, pair_at, row#, start#}
use lib.ListN.{length-set, replicate}
use mathlib.Core.List.{[], ◌∷◌}
use native.Mathlib.Nat.{add-zero}

module _ {w t : List ℕ} {c : ℕ} {q h : List ℕ} (L : Lent w t c q h) (k : ℕ) (low : k < nodes# w) {start : ℕ} (read : start ≡ start# w k) where
  -- a node's first stands at a position
  there : start < n# w
  there = let v = L.tested.shape.node k low in omega (arith, v.run, v.some, read)

  module _ {base row : ℕ} (b : base ≡ pair_at w 0) (e : row ≡ at w (base + 2 * start)) where
    -- where it is read
    first : row ≡ first# w k
    first = e ∙ row_word w base start b ∙ ap (row# w) read

    -- and is one of the n
    first_low : row < n# w
    first_low = omega (arith, first, (L.tested.shape.place (start# w k) (omega (arith, there, read))).row)

pub loop-j-init : goal.loop-j-init
loop-j-init c =
    let a = c.args in
    let f : ℕ → ℕ = first_at (from a.table.now a.c (circles# a.index.now) a.query.now) a.index.now in
    let b = c.requires.index_bound in
    record {
      lent = c.requires.lent;
      from_one = omega arith;
      to = omega (arith, c.requires.lent.tested.shape.whole.fan, c.centres-m.ensures.0);
      wide = refl;
      held = holds-one _ _ (replicate 64 a.x) (b.2 ∙ ap f (sym (add-zero a.ch))) b.1;
      done = span_none _ _ _ _ _ refl;
    }

pub node_start-requires : goal.node_start-requires
node_start-requires c = record { whole = c.requires.lent.tested.shape.whole; k_bound = omega (arith, c.centres-m.ensures.0, c.requires.index_bound.0) }

pub word-row-requires : goal.word-row-requires
word-row-requires c =
    let L = c.requires.lent in
    omega (arith, there L _ (omega (arith, c.centres-m.ensures.0, c.requires.index_bound.0)) c.node_start.ensures.0, L.tested.shape.whole.words, c.pair_at-base.ensures)

pub overflow_add-base : goal.overflow_add-base
overflow_add-base c =
    let L = c.requires.lent in
    omega (arith, there L _ (omega (arith, c.centres-m.ensures.0, c.requires.index_bound.0)) c.node_start.ensures.0, L.tested.shape.whole.words, c.pair_at-base.ensures, c.well_formed)

pub measure_row-requires : goal.measure_row-requires
measure_row-requires c =
    measurable c.loop-j.invariant.lent _
    (first_low c.requires.lent _ (omega (arith, c.centres-m.ensures.0, c.requires.index_bound.0)) c.node_start.ensures.0 c.pair_at-base.ensures c.word-row.ensures.0)

pub loop-j-preserved : goal.loop-j-preserved
loop-j-preserved c =
    let a = c.args in
    let w = a.index.now in
    let full : ℕ → ℕ → ℕ = λ o i. from a.table.now a.c o a.query.now i in
    let x = full (circles# w) in
    let l = c.loop-j in
    let row = c.measure_row in
    let i = c.word-row.result in
    let round = c.circles-round.ensures in
    let read : i ≡ first# w (a.ch + l.j) =
    first c.requires.lent _ (omega (arith, c.centres-m.ensures.0, c.requires.index_bound.0)) c.node_start.ensures.0 c.pair_at-base.ensures c.word-row.ensures.0 in
    record {
      lent = lent_same l.invariant.lent _ row.auto.how;
      from_one = omega arith;
      to = omega arith;
      wide = simp length-set l.invariant.wide;
      held =
          holds_more _ max_distance l.ds l.j (omega (arith, c.requires.lent.tested.shape.whole.fan, c.centres-m.ensures.0))
          (row.ensures.distance.0 ∙ ap (λ (o : ℕ). full o i) round ∙ ap x read) row.ensures.distance.1 l.invariant.held;
      done =
          span-next _ x _ 1 l.j l.invariant.from_one l.invariant.done
          (leaves-as _ x (centre-did x a.r w _ read)
          (leaves_by (is_in_lem a.withdrawn.now) full (λ x. (i, by_distance x a.r i) ∷ []) round row.ensures.marks));
    }

pub returns-clause-marks : goal.returns-clause-marks
returns-clause-marks c = span-end _ _ _ 1 c.loop-j.j (omega (arith, c.centres-m.ensures.0, c.requires.lent.tested.shape.whole.fan)) c.loop-j.invariant.done

pub returns-clause-distances : goal.returns-clause-distances
returns-clause-distances c =
    let l = c.loop-j in
    let e = c.centres-m.ensures.0 in
    record {
      at = λ i h. (l.invariant.held i (omega arith)).0;
      near = λ i h. (l.invariant.held i (omega arith)).1;
    }
