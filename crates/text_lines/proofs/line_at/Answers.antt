-- `text_lines::line_at`: a part of the text.
use Rattle.text_lines.proofs.line_at.Goals as goal
use Rattle.text_lines.specs.Lines.{line_at}

pub returns : goal.returns
unfolding line_at
returns c = cc
