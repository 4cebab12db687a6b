-- `opening::open_piece` meets its contract: a leaf loses its mark or stays, an old node's children are dealt out, a grown run is split.
-- Assumes nothing.
use Prim.Native.Nat.{◌+◌}
use Rattle.opening.proofs.Paths.{path-leaf, path-marked, path-old, path-old-done, path-run, path-run-done}
use Rattle.opening.proofs.Waited.{node-fits}
use Rattle.opening.proofs.open_piece.Goals as goal
use mathlib.Core.Path.{refl, sym}
use native.Mathlib.Omega.{arith}

pub word-s-requires : goal.word-s-requires
word-s-requires c = omega (arith, node-fits c.requires.there)

pub word-count-requires : goal.word-count-requires
word-count-requires c = omega (arith, node-fits c.requires.there)

pub word-mark-requires : goal.word-mark-requires
word-mark-requires c = omega (arith, node-fits c.requires.there)

pub open_old-requires : goal.open_old-requires
open_old-requires c =
    path-old c.requires.q c.requires.there c.word-s.ensures.0 c.word-count.ensures.0 c.word-mark.ensures.0 c.in-Old.ensures.word c.in-Old.ensures.apart

pub bounds-room-k-in-Run-2 : goal.bounds-room-k-in-Run-2
bounds-room-k-in-Run-2 c = omega (arith, node-fits c.requires.there)

pub split_run-requires-clause-splittable : goal.split_run-requires-clause-splittable
split_run-requires-clause-splittable c =
    (path-run c.requires.q c.requires.there {early = c.leaf_size-l.result + 1} c.word-s.ensures.0 c.word-count.ensures.0 c.word-mark.ensures.0
    (sym c.in-Run.ensures.word) c.leaf_size-l.ensures.0 c.if-count-l.false c.columns.ensures.0 c.circles.ensures c.centres-m.ensures.0 refl).0

pub returns-in-Stays : goal.returns-in-Stays
returns-in-Stays c = λ g. path-marked g.q g.there c.word-mark.ensures.0 (sym c.in-Stays.ensures.word) refl _

pub returns-in-Old : goal.returns-in-Old
returns-in-Old c =
    λ g. path-old-done g.q g.there c.word-s.ensures.0 c.word-count.ensures.0 c.word-mark.ensures.0 c.in-Old.ensures.word c.in-Old.ensures.apart
    c.centres-m.ensures.0 c.open_old.ensures

pub returns-in-Run : goal.returns-in-Run
returns-in-Run c =
    λ g. path-leaf g.q g.there c.word-count.ensures.0 c.word-mark.ensures.0 (sym c.in-Run.ensures.word) c.leaf_size-l.ensures.0 c.if-count-l.true _

pub returns-in-Run-2 : goal.returns-in-Run-2
returns-in-Run-2 c =
    λ g. path-run-done g.q g.there c.word-s.ensures.0 c.word-count.ensures.0 c.word-mark.ensures.0 (sym c.in-Run.ensures.word)
    c.leaf_size-l.ensures.0 c.if-count-l.false c.columns.ensures.0 c.circles.ensures c.centres-m.ensures.0 refl _ c.split_run.ensures
