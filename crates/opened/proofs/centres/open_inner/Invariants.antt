-- Before centre j the centres 1 .. j - 1 are marked and their distances stand in the array. Assumes nothing.
use Rattle.std.proofs.Common.{length, ℕ, ◌+◌, ◌≡◌, ◌≤◌}
use Rattle.laws.proofs.Gathered.{Holds}
use Rattle.limits.specs.Limits.{max_distance}
use Rattle.marking.specs.Lent.{Lent}
use Rattle.marking.specs.Listed.{Leaves, span}
use Rattle.marking.specs.Marks.{centre_at, first_at}
use Rattle.measure.specs.Table.{from}
use Rattle.opened.proofs.centres.open_inner.Given as goal
use Rattle.rowset.specs.Sets.{is_in_lem}
use Rattle.words.specs.Words.{circles#}

abbrev pub invariant-loop-j : goal.invariant-loop-j
invariant-loop-j l = record {
  lent : Lent l.index l.table l.c l.query l.how;
  from_one : 1 ≤ l.j;
  to : l.j ≤ l.m;
  wide : length l.ds ≡ 64;
  held : Holds (λ (i : ℕ). first_at (from l.table l.c (circles# l.index) l.query) l.index (l.ch + i)) max_distance l.ds l.j;
  done : Leaves (is_in_lem l.withdrawn) (from l.table l.c (circles# l.index) l.query)
      (span (λ (i : ℕ). centre_at (from l.table l.c (circles# l.index) l.query) l.r l.index (l.ch + i)) 1 l.j) l.initial.how l.how l.initial.list l.list;
}
