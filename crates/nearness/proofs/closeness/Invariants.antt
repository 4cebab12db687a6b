use Rattle.limits.specs.Said.{said}
use Rattle.measure.specs.Table.{between}
use Rattle.nearness.proofs.Strays.{said_from}
use Rattle.nearness.proofs.closeness.Given as goal
use Rattle.nearness.specs.Strays.{all_strays}
use Rattle.std.proofs.Common.{◌≡◌}
use Rattle.words.specs.Words.{circles#}

-- the first fault of the nodes left is the first of all
abbrev pub invariant-loop-node : goal.invariant-loop-node
invariant-loop-node l =
    said (all_strays (between l.table l.c (circles# l.index)) l.index) ≡ said_from (between l.table l.c (circles# l.index)) l.index l.node
