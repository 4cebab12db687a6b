-- The table's refusals, the image's, the card's and the room's, in that order.
use Rattle.std.proofs.Common.{sym, ap}
use Rattle.std.proofs.lemmas.Result.{err_from_is_err_and}
use Rattle.card_refusals.proofs.Refusals.{by-card, by-image, by-table, five, image-right, none-refused}
use Rattle.card_refusals.proofs.test_card.Goals as goal
use Rattle.card_words.proofs.Cards.{card-held}
use Rattle.limits.proofs.Numbers.{passed}

pub returns-in_err-test_table : goal.returns-in_err-test_table
returns-in_err-test_table c =
    let p = err_from_is_err_and c.from_residual.result c.from_residual.ensures.1 in
    rw (p.1, p.2) (by-table _ _ _ _ _ c.in_err-test_table.ensures)

pub returns-in_err-check_image : goal.returns-in_err-check_image
returns-in_err-check_image c =
    let p = err_from_is_err_and c.from_residual-in_err-check_image.result c.from_residual-in_err-check_image.ensures.1 in
    rw (p.1, p.2) (by-image _ _ _ _ (sym (ap (λ s. s.0) c.in_ok-test_table.ensures)) _ c.in_err-check_image.ensures)

pub test_fit-requires : goal.test_fit-requires
test_fit-requires c =
    record { carded = image-right _ c.in_ok-check_image.ensures; le_c = (passed _ (sym (ap (λ s. s.0) c.in_ok-test_table.ensures))).table.some }

pub returns-in_err-test_fit : goal.returns-in_err-test_fit
returns-in_err-test_fit c =
    let p = err_from_is_err_and c.from_residual-in_err-test_fit.result c.from_residual-in_err-test_fit.ensures.1 in
    rw (p.1, p.2) (by-card _ _ _ _ (sym (ap (λ s. s.0) c.in_ok-test_table.ensures)) c.in_ok-check_image.ensures _ c.in_err-test_fit.ensures)

pub card_total-words-requires : goal.card_total-words-requires
card_total-words-requires c = card-held _ (image-right _ c.in_ok-check_image.ensures)

pub returns-then-room-words : goal.returns-then-room-words
returns-then-room-words c =
    five _ _ _ _ (sym (ap (λ s. s.0) c.in_ok-test_table.ensures)) c.in_ok-check_image.ensures (sym (ap (λ s. s.0) c.in_ok-test_fit.ensures))
    c.card_total-words.ensures c.if-room-words.true

pub returns : goal.returns
returns c =
    none-refused _ _ _ _ (sym (ap (λ s. s.0) c.in_ok-test_table.ensures)) c.in_ok-check_image.ensures (sym (ap (λ s. s.0) c.in_ok-test_fit.ensures))
    c.card_total-words.ensures c.if-room-words.false
