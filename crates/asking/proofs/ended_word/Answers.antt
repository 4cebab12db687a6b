-- There is no such word, or it is ended, or it is not.
use Rattle.asking.proofs.Waiting.{ended_none, ended_not, ended_some}
use Rattle.asking.proofs.ended_word.Goals as goal

pub returns-in-Some : goal.returns-in-Some
returns-in-Some c = (ended_some _ _ c.in-Some.ensures c.if-w-words.true, c.in-Some.ensures)

pub returns-in_default : goal.returns-in_default
returns-in_default c = ended_not _ _ c.in-Some.ensures c.if-w-words.false

pub returns-in_default-2 : goal.returns-in_default-2
returns-in_default-2 c = ended_none _ _ c.in_default.ensures
