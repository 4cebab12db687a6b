-- No block below b is wrong.
use Rattle.blocks.proofs.Wrong.{wrong_at}
use Rattle.blocks.proofs.check.first_wrong.Given as goal
use Rattle.laws.specs.First.{First}

abbrev pub invariant-loop-b : goal.invariant-loop-b
invariant-loop-b l = First (wrong_at l.image) 0 l.b l.b
