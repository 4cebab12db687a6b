-- There is no such word, or it is compared.
use Rattle.asking.proofs.Saying.{word_none, word_some}
use Rattle.asking.proofs.is_word.Goals as goal

pub returns-in-Some : goal.returns-in-Some
returns-in-Some c = word_some _ _ _ c.in-Some.ensures _ _ c.bytes_of.ensures c.eq.ensures

pub returns-in-None : goal.returns-in-None
returns-in-None c = word_none _ _ _ c.in-None.ensures
