-- One word of the block more.
use Rattle.std.proofs.Common.{◌*◌, ◌∙◌, rules, arith}
use Rattle.blocks.proofs.Places.{words-length, words_more}
use Rattle.blocks.specs.Blocks.{words_at}
use Rattle.image.proofs.reading.get_block.Goals as goal
use Rattle.laws.proofs.Parts.{store_more}

pub loop-i-init : goal.loop-i-init
unfolding words_at
loop-i-init c = search rules

pub loop-i-preserved : goal.loop-i-preserved
loop-i-preserved c =
    let i = c.loop-i.i in
    let words = words_at c.args.image.now (512 * c.args.b) i in
    store_more words c.args.part.now c.loop-i.part i _ (words-length c.args.image.now (512 * c.args.b) i) (omega arith) c.loop-i.invariant
    ∙ rw (words_more c.args.image.now (512 * c.args.b) i, c.get_word.ensures)
