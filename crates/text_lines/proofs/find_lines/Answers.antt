-- `text_lines::find_lines`: one place more, and all.
use Rattle.std.proofs.Common.{arith}
use Rattle.text_lines.proofs.Lines.{listing-all, listing-next, listing_start}
use Rattle.text_lines.proofs.find_lines.Goals as goal

pub loop-start-init : goal.loop-start-init
loop-start-init c = listing_start _ _ _ c.requires.start

pub loop-start-preserved : goal.loop-start-preserved
loop-start-preserved c =
    listing-next _ _ _ _ _ _ _ c.loop-start.invariant (omega (arith, c.loop-start.invariant.long)) c.next_line-at.ensures.0 c.next_line-at.ensures.2

pub returns : goal.returns
returns c = listing-all _ _ _ _ _ _ c.loop-start.invariant (omega (arith, c.loop-start.invariant.long))
