-- `text_lines::keep_lines`: what cannot be kept, and else the places.
use Rattle.std.proofs.Common.{◌∙◌, ◌++◌, List, ℕ, ap, drop, sym}
use Rattle.text_lines.proofs.Lines.{keeps-all, keeps-far, keeps-long, keeps-short}
use Rattle.text_lines.proofs.keep_lines.Goals as goal
use Rattle.text_lines.proofs.keep_lines.Goals.{then-t-from-via-else-t-from+else-t-gt-LONGEST+then-starts-n, then-t-from-via-else-t-from+then-t-gt-LONGEST, then-t-from-via-then-t-from}
use Rattle.text_lines.specs.Lines.{line_starts}
use lib.Seq.{length-take-le}

pub returns-then-t-from : goal.returns-then-t-from
returns-then-t-from c =
    elim c.then-t-from.branch [
      | then-t-from-via-then-t-from w ↦ let k = keeps-far _ _ _ _ w.if-t-from.true in (k.0, sym k.1)
      | then-t-from-via-else-t-from+then-t-gt-LONGEST w ↦ let k = keeps-long _ _ _ _ w.if-t-from.false w.if-t-gt-LONGEST.true in (k.0, sym k.1)
      | then-t-from-via-else-t-from+else-t-gt-LONGEST+then-starts-n w ↦
          let k = keeps-short _ _ _ _ w.if-t-from.false w.if-t-gt-LONGEST.false w.if-starts-n.true in (k.0, sym k.1)
    ]

pub returns : goal.returns
returns c =
    let a = c.args in
    let k = keeps-all _ _ _ _ c.if-t-from.false c.if-t-gt-LONGEST.false c.if-starts-n.false in (
      k.0,
      ap (λ (xs : List ℕ). xs ++ drop a.n a.starts.now)
          (c.find_lines.ensures ∙ ap (line_starts a.t.now a.from) (length-take-le a.n a.starts.now c.if-starts-n.false))
          ∙ sym k.1,
    )
