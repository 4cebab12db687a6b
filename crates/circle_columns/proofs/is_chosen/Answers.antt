-- `circle_columns::is_chosen`: the chosen columns are compared.
use Rattle.circle_columns.proofs.Gathering.{chosen-told}
use Rattle.circle_columns.proofs.is_chosen.Goals as goal
use Rattle.std.proofs.Common.{◌∙◌, arith}

pub returns : goal.returns
returns c = c.contains.ensures.value ∙ chosen-told _ _ c.requires.1 _ (omega arith)
