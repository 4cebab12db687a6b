-- `rows_withdrawn::words_asked` meets its contract: no row is in a set of zeros. Assumes nothing.
use Rattle.std.proofs.Common.{arith}
use Rattle.rows_withdrawn.proofs.Empty.{none_in}
use Rattle.rows_withdrawn.proofs.words_asked.Goals as goal

pub returns-else-some_on : goal.returns-else-some_on
returns-else-some_on c = (omega arith, none_in _ (c.some_on.ensures c.if-some_on.false))
