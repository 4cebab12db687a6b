-- One of the words is this one, or none is.
use Rattle.asking.proofs.Saying.{has-found, has-next, has-none, has_all}
use Rattle.asking.proofs.has_word.Goals as goal

pub loop-i-init : goal.loop-i-init
loop-i-init c = has-none _ _

pub returns-then-is_word : goal.returns-then-is_word
returns-then-is_word c = has-found _ _ _ 32 c.if-is_word.ensures c.loop-i-test.true

pub loop-i-preserved : goal.loop-i-preserved
loop-i-preserved c = has-next _ _ _ c.if-is_word.ensures c.loop-i.invariant

pub returns : goal.returns
returns c = has_all _ _ _ c.loop-i.invariant c.loop-i.auto.i-end c.loop-i-test.false
