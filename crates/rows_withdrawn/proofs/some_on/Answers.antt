-- `rows_withdrawn::some_on` meets its contract: unless a bit was found, every word passed is zero. Assumes nothing.
use Rattle.std.proofs.Common.{arith}
use Rattle.rows_withdrawn.proofs.Empty.{off-beyond, off_next}
use Rattle.rows_withdrawn.proofs.some_on.Goals as goal

pub loop-word-preserved : goal.loop-word-preserved
loop-word-preserved c = off_next c.args.set.now c.loop-word.word-index c.loop-word.on c.loop-word.invariant

pub returns : goal.returns
returns c = λ e k. off-beyond c.args.set.now c.loop-word.word-index (omega arith) (c.loop-word.invariant e) k
