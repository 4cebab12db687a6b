-- A row that can be taken is narrow, finds room, and is not one too many.
use Rattle.sheet.proofs.decide.Goals as goal
use Rattle.sheet_reading.proofs.Closings.{line-fits}
use mathlib.Core.Path.{◌∙◌, sym}
use native.Mathlib.Omega.{arith}

pub put_row-requires : goal.put_row-requires
put_row-requires c =
    let f = line-fits _ _ _ _ c.line_trouble-trouble.ensures c.if-trouble-ne0.false (sym c.has_titles.ensures ∙ c.if-has_titles.false) in
    (f.narrow, f.space)

pub take_row-requires : goal.take_row-requires
take_row-requires c =
    let f = line-fits _ _ _ _ c.line_trouble-trouble.ensures c.if-trouble-ne0.false (sym c.has_titles.ensures ∙ c.if-has_titles.false) in
    (omega (arith, f.few), f.space)
