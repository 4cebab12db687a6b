-- The nodes before k are opened.
use Rattle.std.proofs.Common.{◌≡◌, length}
use Rattle.growing.proofs.Levelling.{Turn}
use Rattle.growing.proofs.level.Given as goal

abbrev pub invariant-loop-k : goal.invariant-loop-k
invariant-loop-k l = record {
  rooms : length l.room ≡ length l.fn.room;
  works : length l.work ≡ length l.fn.work;
  turn : Turn l.table l.c l.circles l.m l.l l.n l.fn.room l.fn.work l.lo l.hi l.room l.work l.made l.k;
}
