-- `wrong` says whether one of the positions passed is wrong.
use Rattle.std.proofs.Common.{◌≡◌}
use Rattle.laws.specs.Lists.{any, range}
use Rattle.shape_test.proofs.WrongPositions.{wrong_at}
use Rattle.shape_test.proofs.positions_fit.Given as goal

abbrev pub invariant-loop-p : goal.invariant-loop-p
invariant-loop-p l = l.wrong ≡ any (wrong_at l.index) (range 0 l.p)
