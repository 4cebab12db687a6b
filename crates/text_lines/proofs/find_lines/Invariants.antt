-- `text_lines::find_lines`: each turn puts one place.
use Rattle.text_lines.proofs.Lines.{Listing}
use Rattle.text_lines.proofs.find_lines.Given as goal

abbrev pub invariant-loop-start : goal.invariant-loop-start
invariant-loop-start l = Listing l.t l.from l.initial.starts l.starts l.start-index l.at
