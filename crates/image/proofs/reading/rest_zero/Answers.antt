-- A word that is zero leaves it to the others.
use Rattle.std.proofs.Common.{eqb, sym, ◌∙◌}
use Rattle.blocks.specs.Blocks.{image_word_lem}
use Rattle.image.proofs.reading.rest_zero.Goals as goal
use Rattle.laws.proofs.Ranges.{all-step}
use borrow.Author.Tests.{eq-eqb}

pub loop-j-preserved : goal.loop-j-preserved
loop-j-preserved c =
    let zero = eq-eqb _ 0 (sym c.image_word.ensures ∙ c.if-image_word-ne0.false) in
    c.loop-j.invariant ∙ all-step (λ j. eqb (image_word_lem c.args.image.now j) 0) _ _ c.loop-j-test.true zero
