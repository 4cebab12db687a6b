-- The header's words, the nodes' and the positions'.
use Rattle.std.proofs.Common.{rules}
use Rattle.card_refusals.proofs.card_total.Goals as goal
use Rattle.card_refusals.specs.Tests.{read_total}

pub returns : goal.returns
unfolding read_total
returns c = search rules
