-- One word of the block more, and the check one step further; after 127 words it is the block's.
use Rattle.std.proofs.Common.{◌≡◌, ◌*◌, ℕ, ap₂, ◌∙◌, rules, arith}
use Rattle.blocks.proofs.Places.{words_check}
use Rattle.blocks.specs.Blocks.{check_from, check_word, words_at}
use Rattle.blocks.proofs.check.block_check.Goals as goal

pub loop-i-init : goal.loop-i-init
unfolding check_from words_at
loop-i-init c = search rules

pub loop-i-preserved : goal.loop-i-preserved
loop-i-preserved c = words_check c.args.image.now (512 * c.args.b) _ _ c.loop-i.i _ _ c.loop-i.invariant c.get_word.ensures c.stepped-check.ensures

pub returns : goal.returns
unfolding check_word
returns c =
    let all : c.loop-i.i ≡ 127 = omega arith in
    c.loop-i.invariant ∙ ap₂ (λ (s k : ℕ). check_from s (words_at c.args.image.now (512 * c.args.b) k)) c.check_start-check.ensures all
