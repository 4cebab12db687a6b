-- The call is refused, or past all refusals the index is put into the room.
use Rattle.std.proofs.Common.{arith}
use Rattle.std.proofs.lemmas.Result.{err_from_is_err_and}
use Rattle.card.proofs.Contract.{passed, refused, taken}
use Rattle.card.proofs.read_image.Goals as goal
use Rattle.card_refusals.proofs.Refusals.{clear_tabled}

pub returns-in_err-words : goal.returns-in_err-words
returns-in_err-words c =
    let p = err_from_is_err_and c.from_residual.result c.from_residual.ensures.1 in
    rw (p.1, p.2) (refused c.args.room.now _ c.in_err-words.ensures)

pub put_index-requires : goal.put_index-requires
put_index-requires c =
    let C = passed c.args.room.now c.in_ok-words.ensures in
    record { tabled = clear_tabled _ _ _ _ C; words_value = (c.in_ok-words.ensures.counted, omega (arith, c.in_ok-words.ensures.counted, C.space)) }

pub returns : goal.returns
returns c = taken c.args.room.now c.in_ok-words.ensures c.put_index.ensures
