-- `labels::find_label`: a row has the label, or has not.
use Rattle.labels.proofs.Counting.{counted-hit, counted-none, counted-other, labelled-told}
use Rattle.labels.proofs.find_label.Goals as goal
use Rattle.labels.proofs.find_label.Goals.{else-eq, then-eq}
use Rattle.std.proofs.Common.{◌∙◌, sym}

pub loop-i-init : goal.loop-i-init
loop-i-init c = counted-none _

pub loop-i-preserved : goal.loop-i-preserved
loop-i-preserved c =
    let told = labelled-told _ _ _ _ _ _ _ _ c.line_from.ensures c.label_in.ensures c.eq.ensures in
    elim c.if-eq.branch [
      | then-eq w ↦ rw w.hits-is (counted-hit _ c.loop-i.invariant (sym told ∙ w.if-eq.true))
      | else-eq w ↦ rw w.hits-is (counted-other _ c.loop-i.invariant (sym told ∙ w.if-eq.false))
    ]
