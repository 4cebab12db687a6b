-- `text_lines::text_start`: with the mark, or without it.
use Rattle.std.proofs.Common.{◌∙◌, arith, refl, sym}
use Rattle.text_lines.proofs.Lines.{start-told}
use Rattle.text_lines.proofs.text_start.Goals as goal
use Rattle.text_lines.specs.Lines.{text_start_lem}

pub returns-then-starts_with : goal.returns-then-starts_with
unfolding text_start_lem
returns-then-starts_with c =
    (rw (sym (start-told c.args.t.now) ∙ sym c.starts_with.ensures.value ∙ c.if-starts_with.true) refl, omega (arith, c.starts_with.ensures.bound c.if-starts_with.true))

pub returns-else-starts_with : goal.returns-else-starts_with
unfolding text_start_lem
returns-else-starts_with c = (rw (sym (start-told c.args.t.now) ∙ sym c.starts_with.ensures.value ∙ c.if-starts_with.false) refl, omega arith)
