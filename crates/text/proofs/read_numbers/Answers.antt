-- the count decides the answer before anything is put
use Rattle.text.proofs.read_numbers.Goals as goal
use Rattle.text_reading.proofs.Answers.{done, read, refused-room, refused-text, unread}
use Rattle.std.proofs.Common.{◌∙◌, arith, sym}

pub returns-then-count-eq0 : goal.returns-then-count-eq0
returns-then-count-eq0 c = refused-text _ _ (unread _ (sym c.count-count.ensures ∙ c.if-count-eq0.true))

pub returns-then-room-count : goal.returns-then-room-count
returns-then-room-count c =
    let k = read _ c.count-count.ensures c.if-count-eq0.false in
    refused-room _ _ k.0 (omega (arith, k.1, c.if-room-count.true))

pub fill-requires : goal.fill-requires
fill-requires c = omega (arith, (read _ c.count-count.ensures c.if-count-eq0.false).1, c.if-room-count.false)

pub returns : goal.returns
returns c =
    let k = read _ c.count-count.ensures c.if-count-eq0.false in
    done _ _ _ _ k.0 (omega (arith, k.1, c.if-room-count.false)) k.1 c.fill.ensures
