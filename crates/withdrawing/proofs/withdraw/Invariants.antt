-- `withdrawing::withdraw`: each turn reads one line.
use Rattle.std.proofs.Common.{◌-◌, length}
use Rattle.withdrawing.proofs.Reading.{Reading}
use Rattle.withdrawing.proofs.withdraw.Given as goal

abbrev pub invariant-loop-at : goal.invariant-loop-at
invariant-loop-at l = Reading l.t l.n l.initial.set l.set l.at l.i

abbrev pub decreases-loop-at : goal.decreases-loop-at
decreases-loop-at l = length l.t - l.at
