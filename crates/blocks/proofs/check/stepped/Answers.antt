-- Rotated as the definition says, and the word added.
use Rattle.std.proofs.Common.{◌≡◌, ◌∙◌, arith}
use Rattle.blocks.proofs.Checks.{rotate_left-is}
use Rattle.blocks.specs.Blocks.{rotate, step}
use Rattle.blocks.proofs.check.stepped.Goals as goal

pub returns : goal.returns
unfolding step rotate
returns c =
    let turned : c.rotate_left.result ≡ rotate c.args.s = c.rotate_left.ensures ∙ rotate_left-is c.args.s (omega arith) in
    omega (arith, turned)
