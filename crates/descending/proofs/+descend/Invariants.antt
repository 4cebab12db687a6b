-- A child has a level less left; and after j turns the first j children's rows are marked behind the centres'. Assumes nothing.
use Rattle.std.proofs.Common.{length, ℕ, ◌+◌, ◌-◌, ◌≡◌, ◌≤◌}
use Rattle.descending.proofs.+descend.Given as goal
use Rattle.descending.proofs.Below.{Below}
use Rattle.descending.specs.Descent.{kid_marks}
use Rattle.marking.specs.Lent.{Lent}
use Rattle.marking.specs.Listed.{Leaves, span}
use Rattle.marking.specs.Marks.{Distances, least_from}
use Rattle.measure.specs.Table.{from}
use Rattle.rowset.specs.Sets.{is_in_lem}
use Rattle.words.specs.Words.{circles#, m#}

abbrev pub decreases-descend : goal.decreases-descend
decreases-descend l = l.levels

abbrev pub invariant-loop-j : goal.invariant-loop-j
invariant-loop-j l =
    Lent l.index l.table l.c l.query l.how × Below l.index l.levels l.k l.ch × (length l.how ≡ length l.initial.how) × (length l.list ≡ length l.initial.list) × (l.j ≤ l.m) × (l.m ≡ m# l.index)
    × Distances (from l.table l.c (circles# l.index) l.query) l.index l.ch l.ds × (l.y ≡ least_from (from l.table l.c (circles# l.index) l.query) l.index l.ch)
    × Leaves (is_in_lem l.withdrawn) (from l.table l.c (circles# l.index) l.query)
    (span (λ (i : ℕ). kid_marks (from l.table l.c (circles# l.index) l.query) l.r l.index (l.levels - 1) l.bound l.ch (l.ch + i)) 0 l.j) l.initial.how l.how l.initial.list l.list
