-- Before position p the rows of the run below it are marked as an opened leaf's. Assumes nothing.
use Rattle.std.proofs.Common.{length, ℕ, ◌+◌, ◌≡◌, ◌≤◌}
use Rattle.leaf_decision.specs.Decision.{leaf_at}
use Rattle.marking.specs.Lent.{Lent}
use Rattle.marking.specs.Listed.{Leaves, span}
use Rattle.measure.specs.Table.{from}
use Rattle.opened.proofs.leaf.open_leaf.Given as goal
use Rattle.rowset.specs.Sets.{is_in_lem}
use Rattle.words.specs.Words.{circles#, start#}

abbrev pub invariant-loop-p : goal.invariant-loop-p
invariant-loop-p l = record {
  lent : Lent l.index l.table l.c l.query l.how;
  start : start# l.index l.k + 1 ≤ l.p;
  to : l.p ≤ l.end;
  done : Leaves (is_in_lem l.withdrawn) (from l.table l.c (circles# l.index) l.query)
      (span (leaf_at (from l.table l.c (circles# l.index) l.query) l.r l.index l.x) (start# l.index l.k + 1) l.p) l.initial.how l.how l.initial.list l.list;
}
