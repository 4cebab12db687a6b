-- Before position p the rows of the positions below it are marked as an opened leaf's. Assumes nothing.
use Rattle.std.proofs.Common.{length, false, ℕ, ◌≡◌, ◌≤◌}
use Rattle.bare_leaf.proofs.open_bare.Given as goal
use Rattle.leaf_decision.specs.Decision.{leaf_at}
use Rattle.marking.specs.Lent.{Lent}
use Rattle.marking.specs.Written.{marked}
use Rattle.measure.specs.Table.{from}

abbrev pub invariant-loop-p : goal.invariant-loop-p
invariant-loop-p l = record {
  lent : Lent l.index l.table l.c l.query l.how;
  long : length l.how ≡ length l.initial.how;
  begun : l.lo ≤ l.p;
  to : l.p ≤ l.hi;
  done : l.how ≡ marked (λ (i : ℕ). false) (leaf_at (from l.table l.c l.circles l.query) l.r l.index l.x) l.lo l.p l.initial.how;
}
