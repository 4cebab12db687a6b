-- `row_lines::said_in`: more than one word says nothing, and one word its number.
use Rattle.row_lines.proofs.Places.{said_told, says_none, says_word}
use Rattle.row_lines.proofs.said_in.Goals as goal

pub returns-then-past_blanks-line : goal.returns-then-past_blanks-line
returns-then-past_blanks-line c =
    says_none _ _ _ _ c.past_blanks-start.ensures.0 c.end_from-end.ensures.0 c.past_blanks.ensures.0 c.if-past_blanks-line.true

pub returns : goal.returns
returns c =
    said_told _ c.number.ensures
    (says_word _ _ _ _ c.past_blanks-start.ensures.0 c.end_from-end.ensures.0 c.past_blanks.ensures.0 c.if-past_blanks-line.false _ c.part.ensures)
