-- `row_lines::is_blank`: no byte that is no blank is there.
use Rattle.row_lines.proofs.Places.{blank_told}
use Rattle.row_lines.proofs.is_blank.Goals as goal

pub returns : goal.returns
returns c = blank_told _ _ c.past_blanks.ensures.0 c.past_blanks.ensures.1
