-- `text_lines::body_end`: an empty line, a carriage return, or none.
use Rattle.std.proofs.Common.{arith}
use Rattle.text_lines.proofs.Lines.{body-none, body-return, body-whole}
use Rattle.text_lines.proofs.body_end.Goals as goal
use Rattle.text_lines.proofs.body_end.Goals.{else-at-end-via-else-at-end, else-at-end-via-then-at-end+else-t-end-eq13}

pub returns-then-t-end-eq13 : goal.returns-then-t-end-eq13
returns-then-t-end-eq13 c =
    (body-return _ _ _ c.end_from-end.ensures.0 c.if-at-end.true c.if-t-end-eq13.true, omega (arith, c.if-at-end.true), omega (arith, c.end_from-end.ensures))

pub returns-else-at-end : goal.returns-else-at-end
returns-else-at-end c =
    let e = c.end_from-end.ensures in (
      elim c.else-at-end.branch [
        | else-at-end-via-then-at-end+else-t-end-eq13 w ↦ body-whole _ _ _ e.0 w.if-at-end.true w.if-t-end-eq13.false
        | else-at-end-via-else-at-end w ↦ body-none _ _ _ e.0 w.if-at-end.false
      ],
      e.1,
      e.2,
    )
