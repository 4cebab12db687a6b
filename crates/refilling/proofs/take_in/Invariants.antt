-- `refilling::take_in` meets its contract: the new rows before z are laid (`Taking`).
-- Assumes nothing.
use Rattle.refilling.proofs.Taking.{Taking}
use Rattle.refilling.proofs.take_in.Given as goal

abbrev pub invariant-loop-z : goal.invariant-loop-z
invariant-loop-z l =
    Taking l.table l.index l.n l.initial.work l.work l.radius l.inner l.z
