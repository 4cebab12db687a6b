-- Words that are no index end it, then a short room; else the blocks are written.
use Rattle.std.proofs.Common.{◌≡◌, ◌*◌, ◌≤◌, ℕ, ◌++◌, drop, length, take, sym, ap, ap₂, ◌∙◌, arith}
use Rattle.blocks.specs.Blocks.{blocks, blocks_for_lem}
use Rattle.image.proofs.Calls.{writes-done, writes-five, writes-sixteen}
use Rattle.image.proofs.write_image.Goals as goal
use Rattle.image.specs.Image.{image}
use Rattle.words.proofs.Headers.{words-whole}
use Rattle.words.proofs.InShape.{header_possible, header_there, whole}
use Rattle.words.specs.Words.{words_of_lem}
use lib.Seq.{length-take-le}

pub returns-then-not-words_ok : goal.returns-then-not-words_ok
returns-then-not-words_ok c = writes-sixteen c.args.index.now c.args.image.now (sym c.words_ok.ensures ∙ c.if-not-words_ok.true)

pub words_of-words-requires : goal.words_of-words-requires
words_of-words-requires c =
    let ok = sym c.words_ok.ensures ∙ c.if-not-words_ok.false in
    (header_there c.args.index.now ok, header_possible c.args.index.now (words-whole c.args.index.now ok).1)

pub returns-then-image-blocks : goal.returns-then-image-blocks
returns-then-image-blocks c =
    let ok = sym c.words_ok.ensures ∙ c.if-not-words_ok.false in
    let count : c.blocks_for-blocks.result ≡ blocks_for_lem (words_of_lem c.args.index.now) =
    c.blocks_for-blocks.ensures.0 ∙ ap blocks_for_lem c.words_of-words.ensures.0 in
    writes-five c.args.index.now c.args.image.now ok (rw (← count) c.if-image-blocks.true)

pub slice_bounds-put_blocks-end : goal.slice_bounds-put_blocks-end
slice_bounds-put_blocks-end c =
    let ok = sym c.words_ok.ensures ∙ c.if-not-words_ok.false in
    let within : c.words_of-words.result ≤ length c.args.index.now = rw c.words_of-words.ensures.0 (whole c.args.index.now (words-whole c.args.index.now ok).1).words in
    sym (length-take-le c.words_of-words.result c.args.index.now within)

pub put_blocks-requires : goal.put_blocks-requires
unfolding blocks_for_lem
put_blocks-requires c =
    let ok = sym c.words_ok.ensures ∙ c.if-not-words_ok.false in
    let within : c.words_of-words.result ≤ length c.args.index.now =
    rw c.words_of-words.ensures.0 (whole c.args.index.now (words-whole c.args.index.now ok).1).words in
    let long = length-take-le c.words_of-words.result c.args.index.now within in
    (c.blocks_for-blocks.ensures.1, omega (arith, long), c.if-image-blocks.false)

pub returns : goal.returns
unfolding image
returns c =
    let index = c.args.index.now in
    let lent = c.args.image.now in
    let ok = sym c.words_ok.ensures ∙ c.if-not-words_ok.false in
    let count : c.blocks_for-blocks.result ≡ blocks_for_lem (words_of_lem index) =
    c.blocks_for-blocks.ensures.0 ∙ ap blocks_for_lem c.words_of-words.ensures.0 in
    writes-done index lent ok _ _ (rw (← count) c.if-image-blocks.false) count
    (c.put_blocks.ensures ∙ ap₂ (λ (t b : ℕ). blocks (take t index) b ++ drop (512 * b) lent) c.words_of-words.ensures.0 count)
