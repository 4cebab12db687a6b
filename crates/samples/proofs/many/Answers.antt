-- the length of what repeats one number is how often it does; to compute it is too deep for the check
use Rattle.std.proofs.Common.{ℕ, sym}
use Rattle.std.proofs.Math.ListN.{length-replicate}
use Rattle.samples.proofs.many.Goals as goal

pub returns : goal.returns
returns c = sym (length-replicate {0} {A = ℕ} 1_048_577 0)
