-- `dealing::deal_out` meets its contract: the first k children are dealt out (`Turn`).
-- Assumes nothing.
use Rattle.dealing.proofs.Children.{Turn}
use Rattle.dealing.specs.Dealt.{KidsAsk}
use Rattle.dealing.proofs.deal_out.Given as goal

abbrev pub invariant-loop-k : goal.invariant-loop-k
invariant-loop-k l =
    (g : KidsAsk l.table l.index l.p.node l.p.rows l.p.lo l.p.hi l.initial.room l.initial.work l.s l.made) → Turn g l.p.last l.m l.room l.work l.at l.k
