-- The text ends before the piece, or the piece is the one that begins where all before it end.
use Rattle.asking.proofs.Parting.{begin_all, begin_first, begin_next, has_one, none_left}
use Rattle.asking.proofs.pieces.piece_at.Goals as goal
use mathlib.Core.Path.{sym}
use native.Mathlib.Omega.{arith}

pub loop-init : goal.loop-init
loop-init c = (sym (begin_first _ _), omega arith)

pub returns-then-end-t : goal.returns-then-end-t
returns-then-end-t c =
    sym (none_left _ _ _ _ _ _ c.loop-test.true c.loop.invariant.0 c.end_from-end.ensures.0 c.if-end-t.true)

pub loop-preserved : goal.loop-preserved
loop-preserved c = (
  begin_next _ _ _ _ _ c.loop.invariant.0 c.end_from-end.ensures.0,
  omega (arith, c.end_from-end.ensures, c.if-end-t.false),
)

pub returns : goal.returns
returns c =
    let at = c.loop.invariant in
    let all = begin_all _ _ _ _ _ c.loop.auto.counter-end c.loop-test.false at.0 in
    let e = c.end_from-end-2.ensures in
    record { has = sym (has_one _ _ _ _ all at.1); starts = all; ends = e.0; ordered = e.1; inside = e.2 }
