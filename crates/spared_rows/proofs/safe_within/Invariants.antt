use Rattle.measure.specs.Table.{between}
use Rattle.spared_rows.proofs.safe_within.Given as goal
use Rattle.spared_rows.specs.Safe.{SafeTo}
use Rattle.words.specs.Words.{circles#}
use lib.ListN.{get_or}

-- no row within `least` is closer to a centre that was passed
abbrev pub invariant-loop-f : goal.invariant-loop-f
invariant-loop-f l = SafeTo (between l.table l.c (circles# l.index)) l.fs (get_or l.fs l.a 0) l.f-index l.least
