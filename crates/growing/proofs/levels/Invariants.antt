-- The levels above `_depth` are opened.
use Rattle.std.proofs.Common.{◌≡◌, length}
use Rattle.growing.proofs.Growing.{Grows}
use Rattle.growing.proofs.levels.Given as goal

abbrev pub invariant-loop-depth : goal.invariant-loop-depth
invariant-loop-depth l = record {
  rooms : length l.room ≡ length l.fn.room;
  works : length l.work ≡ length l.fn.work;
  grows : Grows l.table l.c l.circles l.m l.l l.n l.fn.room l.fn.work l.room l.work l.lo l.hi l._depth;
}
