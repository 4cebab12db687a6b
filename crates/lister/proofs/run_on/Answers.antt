-- No number is above 18.
use Rattle.lister.proofs.Listed.{runs_low}
use Rattle.lister.proofs.run_on.Goals as goal

pub returns : goal.returns
returns g c = runs_low c.run_in-listed.ensures
