-- `leaf_rows::leaf_row` meets its contract: each case of the verdict leaves that case's byte. Assumes nothing.
use Rattle.std.proofs.Common.{arith, refl, List, ℕ, ◌*◌, ◌+◌, ◌<◌, ◌∙◌, ◌≡◌}
use Rattle.std.proofs.lemmas.Bool.{not_from_false, not_from_true}
use Rattle.leaf_decision.proofs.Did.{leaf-did}
use Rattle.leaf_decision.specs.declared.Verdict.TheVariants.{In, Measure, Out}
use Rattle.leaf_rows.proofs.leaf_row.Goals as goal
use Rattle.marking.proofs.Fitted.{measurable}
use Rattle.marking.proofs.Listed.{leaves-as, leaves-gone, leaves_in, leaves-out}
use Rattle.measure.specs.Table.{from}
use Rattle.words.proofs.Positions.{dist-word, row_word}
use borrow.Author.Tests.{not-false, not-true}

pub measure_to-requires : goal.measure_to-requires
measure_to-requires c =
    let a = c.args in
    let b = c.requires.p_bound in
    measurable c.requires.lent _
    (omega (arith, c.requires.lent.tested.shape.place a.p b.0, c.word-row.ensures.0 ∙ row_word a.index.now a.base a.p b.2))

pub returns-in-Out : goal.returns-in-Out
returns-in-Out c =
    let a = c.args in
    let b = c.requires.p_bound.2 in
    leaves-as _ _
    (leaf-did (from a.table.now a.c a.circles a.query.now) a.r a.index.now Out _ _ (c.word-row.ensures.0 ∙ row_word a.index.now a.base a.p b)
    (dist-word a.index.now a.base a.p b) c.in-Out.ensures refl)
    (leaves-out _ _ _)

pub returns-then-not-is_in : goal.returns-then-not-is_in
returns-then-not-is_in c =
    let a = c.args in
    let b = c.requires.p_bound.2 in
    leaves-as _ _
    (leaf-did (from a.table.now a.c a.circles a.query.now) a.r a.index.now In _ _ (c.word-row.ensures.0 ∙ row_word a.index.now a.base a.p b)
    (dist-word a.index.now a.base a.p b) c.in-In.ensures refl)
    (leaves_in _ _ _ c.is_in.ensures (not-true _ (not_from_false _ c.if-not-is_in.true)) c.put.ensures c.enter.ensures)

pub returns-else-not-is_in : goal.returns-else-not-is_in
returns-else-not-is_in c =
    let a = c.args in
    let b = c.requires.p_bound.2 in
    leaves-as _ _
    (leaf-did (from a.table.now a.c a.circles a.query.now) a.r a.index.now In _ _ (c.word-row.ensures.0 ∙ row_word a.index.now a.base a.p b)
    (dist-word a.index.now a.base a.p b) c.in-In.ensures refl)
    (leaves-gone _ _ _ c.is_in.ensures (not-false _ (not_from_true _ c.if-not-is_in.false)))

pub returns-in-Measure : goal.returns-in-Measure
returns-in-Measure c =
    let a = c.args in
    let b = c.requires.p_bound.2 in
    leaves-as _ _
    (leaf-did (from a.table.now a.c a.circles a.query.now) a.r a.index.now Measure _ _ (c.word-row.ensures.0 ∙ row_word a.index.now a.base a.p b)
    (dist-word a.index.now a.base a.p b) c.in-Measure.ensures refl)
    c.measure_to.ensures
