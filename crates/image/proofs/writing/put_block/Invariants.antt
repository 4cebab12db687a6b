-- After i turns the bytes of i words stand at the part's front, and the check has gone over them.
use Rattle.image.proofs.Filled.{Filled}
use Rattle.image.proofs.writing.put_block.Given as goal

abbrev pub invariant-loop-i : goal.invariant-loop-i
invariant-loop-i l = Filled l.index l.b l.fn.part l.part l.check l.i

abbrev pub invariant-loop-i-2 : goal.invariant-loop-i-2
invariant-loop-i-2 l = Filled l.index l.b l.fn.part l.part l.check l.i
