-- One block's words more.
use Rattle.std.proofs.Common.{◌≡◌, ℕ, ◌+◌, ◌-◌, ◌*◌, List, ◌++◌, drop, min, ap, ◌∙◌, arith}
use Rattle.blocks.proofs.InBlocks.{block_words}
use Rattle.blocks.proofs.Places.{image-length}
use Rattle.blocks.specs.Blocks.{image_words, words_at}
use Rattle.image.proofs.reading.get_words.Goals as goal
use Rattle.laws.proofs.Parts.{put_part}
use borrow.Rule.Slice.PartMut.{mid_len, put_mid}

pub loop-b-init : goal.loop-b-init
unfolding image_words
loop-b-init c =
    let none : min 0 c.args.t ≡ 0 = omega arith in
    rw none

pub loop-b-preserved : goal.loop-b-preserved
loop-b-preserved c =
    let i = c.args.image.now in
    let b = c.loop-b.b in
    let to = c.min-to.result in
    let room₀ = c.args.room.now in
    let now : min (127 * b) c.args.t ≡ 127 * b = omega arith in
    let next : to ≡ min (127 * (b + 1)) c.args.t = omega arith in
    let upto : 127 * b + (to - 127 * b) ≡ to = omega arith in
    let part : c.get_block.new.part ≡ words_at i (512 * b) (to - 127 * b) =
    c.get_block.ensures ∙ ap (words_at i (512 * b)) (mid_len (127 * b) to c.loop-b.room (omega arith)) in
    let before : c.loop-b.room ≡ image_words i (127 * b) ++ drop (127 * b) room₀ =
    c.loop-b.invariant ∙ ap (λ (k : ℕ). image_words i k ++ drop k room₀) now in
    ap (λ (l : List ℕ). put_mid (127 * b) (to - 127 * b) c.loop-b.room l) part
    ∙ put_part (image_words i (127 * b)) (words_at i (512 * b) (to - 127 * b)) room₀ c.loop-b.room (127 * b) to (image-length i (127 * b)) (omega arith) before
    ∙ ap (λ (l : List ℕ). l ++ drop to room₀) (block_words i b (to - 127 * b) (omega arith) ∙ ap (image_words i) upto)
    ∙ ap (λ (k : ℕ). image_words i k ++ drop k room₀) next
