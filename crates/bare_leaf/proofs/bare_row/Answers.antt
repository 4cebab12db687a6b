-- `bare_leaf::bare_row` meets its contract: each case of the verdict leaves that case's byte. Assumes nothing.
use Rattle.std.proofs.Common.{arith, length, refl, List, ℕ, ◌*◌, ◌+◌, ◌<◌, ◌∙◌, ◌≡◌}
use Rattle.bare_leaf.proofs.Bytes.{byte_in, byte-measured, byte_out, leaf-byte}
use Rattle.bare_leaf.proofs.bare_row.Goals as goal
use Rattle.leaf_decision.specs.declared.Verdict.TheVariants.{In, Measure, Out}
use Rattle.marking.proofs.Fitted.{measurable}
use Rattle.marking.specs.Lent.{Lent}
use Rattle.measure.specs.Table.{from}
use Rattle.words.proofs.Positions.{dist-word, row_word}
use Rattle.words.specs.Words.{at, n#, pair_at, row#}

-- the row read is one of the n
row_low : {w t : List ℕ} {c : ℕ} {q h : List ℕ} {base p row : ℕ} → Lent w t c q h → p < n# w → base ≡ pair_at w 0 → row ≡ at w (base + 2 * p) → row < n# w
row_low {w} {base = base} {p = p} L l b e = omega (arith, L.tested.shape.place p l, e ∙ row_word w base p b)

pub measured_byte-requires : goal.measured_byte-requires
measured_byte-requires c =
    let b = c.requires.p_bound in
    let m = measurable c.requires.lent.0 _ (row_low c.requires.lent.0 b.0 b.2 c.word-row.ensures.0) in
    (m.0, m.1, m.2)

pub bounds-how-row-in-Measure : goal.bounds-how-row-in-Measure
bounds-how-row-in-Measure c =
    let b = c.requires.p_bound in
    omega (arith, row_low c.requires.lent.0 b.0 b.2 c.word-row.ensures.0, c.requires.lent.0.how c.requires.lent.1)

pub returns-in-Out : goal.returns-in-Out
returns-in-Out c =
    let a = c.args in
    let b = c.requires.p_bound.2 in
    byte_out c.word-row.result a.how.now
    ∙ leaf-byte (from a.table.now a.c a.circles a.query.now) a.r a.index.now Out _ _ _ (c.word-row.ensures.0 ∙ row_word a.index.now a.base a.p b)
    (dist-word a.index.now a.base a.p b) c.in-Out.ensures refl

pub returns-in-In : goal.returns-in-In
returns-in-In c =
    let a = c.args in
    let b = c.requires.p_bound.2 in
    byte_in c.word-row.result a.how.now
    ∙ leaf-byte (from a.table.now a.c a.circles a.query.now) a.r a.index.now In _ _ _ (c.word-row.ensures.0 ∙ row_word a.index.now a.base a.p b)
    (dist-word a.index.now a.base a.p b) c.in-In.ensures refl

pub returns-in-Measure : goal.returns-in-Measure
returns-in-Measure c =
    let a = c.args in
    let b = c.requires.p_bound.2 in
    byte-measured (from a.table.now a.c a.circles a.query.now) a.r c.word-row.result a.how.now c.measured_byte.ensures
    ∙ leaf-byte (from a.table.now a.c a.circles a.query.now) a.r a.index.now Measure _ _ _ (c.word-row.ensures.0 ∙ row_word a.index.now a.base a.p b)
    (dist-word a.index.now a.base a.p b) c.in-Measure.ensures refl
