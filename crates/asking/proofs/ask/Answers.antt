-- One word more is put behind the others, or there is none.
use Rattle.std.proofs.Common.{sym, ◌∙◌}
use Rattle.asking.proofs.Waiting.{waits_next, waits_none, waits_same}
use Rattle.asking.proofs.ask.Goals as goal
use Rattle.asking.proofs.ask.Goals.{in-Some+in_ok-put_word, in_default}

pub loop-i-init : goal.loop-i-init
loop-i-init c = c.start-reading.ensures ∙ sym (waits_none _)

pub loop-i-preserved : goal.loop-i-preserved
loop-i-preserved c =
    elim c.match-ended_word.branch [
      | in-Some+in_ok-put_word w ↦
          rw w.reading-is (waits_next _ _ w.in-Some.ensures.0 w.in-Some.ensures.1 c.loop-i.invariant w.in_ok-put_word.ensures)
      | in_default w ↦ rw w.reading-is (c.loop-i.invariant ∙ waits_same _ _ w.in_default.ensures)
    ]
