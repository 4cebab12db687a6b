-- Each return is one end of the tests, in their order.
use Rattle.std.proofs.Common.{◌≡◌, ℕ, List, sym, ap, ◌∙◌, arith}
use Rattle.blocks.specs.Blocks.{blocks_for_lem, image_words}
use Rattle.image.proofs.Refusals.{none-held, seventeen, sixteen-count, sound-found, sound-refused}
use Rattle.image.proofs.reading.check_held.Goals as goal
use Rattle.image.specs.Image.{image_total}
use Rattle.image.specs.Sound.{rest_zero_lem}
use Rattle.limits.specs.Said.{said}
use Rattle.words.specs.Words.{card_ok_lem, header_words, words_of_lem}

-- how many words the header asks for
total-is : (i header : List ℕ) (words : ℕ) → header ≡ image_words i header_words → words ≡ words_of_lem header → words ≡ image_total i
unfolding image_total
total-is i header words e f = f ∙ ap words_of_lem e

pub returns-then-blocks_for-image : goal.returns-then-blocks_for-image
returns-then-blocks_for-image c =
    let total = total-is c.args.image.now _ _ c.header_of-header.ensures c.words_of-words.ensures.0 in
    let needed = c.blocks_for.ensures.0 ∙ ap blocks_for_lem total in
    sound-refused _ _ 16 0 (λ q. omega arith) (sixteen-count c.args.image.now (λ e. c.if-blocks_for-image.true (needed ∙ sym e)))

pub returns-then-not-rest_zero : goal.returns-then-not-rest_zero
returns-then-not-rest_zero c =
    let i = c.args.image.now in
    let header = sym (c.card_ok.ensures ∙ ap card_ok_lem c.header_of-header.ensures) ∙ c.if-not-card_ok.false in
    let total = total-is i _ _ c.header_of-header.ensures c.words_of-words.ensures.0 in
    let count = sym c.if-blocks_for-image.false ∙ c.blocks_for.ensures.0 ∙ ap blocks_for_lem total in
    let some = sym (c.rest_zero.ensures ∙ ap (rest_zero_lem i) total) ∙ c.if-not-rest_zero.true in
    sound-refused _ _ 17 0 (λ q. omega arith) (seventeen i header count some)

pub returns : goal.returns
returns c =
    let i = c.args.image.now in
    let header = sym (c.card_ok.ensures ∙ ap card_ok_lem c.header_of-header.ensures) ∙ c.if-not-card_ok.false in
    let total = total-is i _ _ c.header_of-header.ensures c.words_of-words.ensures.0 in
    let count = sym c.if-blocks_for-image.false ∙ c.blocks_for.ensures.0 ∙ ap blocks_for_lem total in
    let zeros = sym (c.rest_zero.ensures ∙ ap (rest_zero_lem i) total) ∙ c.if-not-rest_zero.false in
    sound-found _ _ _ (ap said (none-held i header count zeros)) total
