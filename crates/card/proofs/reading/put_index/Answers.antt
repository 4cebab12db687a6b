-- An edition 1 card is widened, any other read as it is.
use Rattle.std.proofs.Common.{arith}
use Rattle.card.proofs.Filling.{same-put, total_inside, total-wide, wide-put}
use Rattle.card.proofs.reading.put_index.Goals as goal

pub widen_card-requires : goal.widen_card-requires
widen_card-requires c = record { tabled = c.requires.tabled; image_in_bounds = omega (arith, c.requires.words_value.0, c.requires.words_value.1, total-wide c.args.image.now) }

pub get_words-requires : goal.get_words-requires
get_words-requires c = (
  omega (
    arith,
    c.requires.words_value.0,
    total_inside c.args.image.now c.requires.tabled.held (λ e. omega (arith, e, c.card_word.ensures.0, c.if-card_word-eq1.false)),
  ),
  c.requires.words_value.1,
)

pub returns-then-card_word-eq1 : goal.returns-then-card_word-eq1
returns-then-card_word-eq1 c =
    wide-put c.args.image.now c.args.table.now c.args.c c.args.room.now (omega (arith, c.card_word.ensures.0, c.if-card_word-eq1.true)) c.widen_card.ensures

pub returns-else-card_word-eq1 : goal.returns-else-card_word-eq1
returns-else-card_word-eq1 c =
    same-put c.args.image.now c.requires.tabled.held c.args.table.now c.args.c c.args.room.now
    (λ e. omega (arith, e, c.card_word.ensures.0, c.if-card_word-eq1.false)) c.requires.words_value.0 c.get_words.ensures
