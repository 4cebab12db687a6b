-- Either of the two decides.
use Rattle.refusals.proofs.Refusals.{circles-say}
use Rattle.refusals.proofs.test_circles.Goals as goal
use mathlib.Core.Bool.{◌||◌}
use mathlib.Core.Path.{◌∙◌, ap₂, sym}

pub returns-then-off_circle : goal.returns-then-off_circle
returns-then-off_circle c = circles-say _ _ _ _ (ap₂ ◌||◌ (sym c.off_circle.ensures) (sym c.off_circle-2.ensures) ∙ c.if-off_circle.true)

pub returns : goal.returns
returns c = circles-say _ _ _ _ (ap₂ ◌||◌ (sym c.off_circle.ensures) (sym c.off_circle-2.ensures) ∙ c.if-off_circle.false)
