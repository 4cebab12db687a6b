-- One block more.
use Rattle.std.proofs.Common.{◌≡◌, ◌+◌, ◌-◌, ◌*◌, List, ℕ, ap, ◌∙◌, rules, arith}
use Rattle.blocks.specs.Blocks.{block, blocks}
use Rattle.image.proofs.Blocks.{blocks-length, blocks_more}
use Rattle.image.proofs.writing.put_blocks.Goals as goal
use Rattle.laws.proofs.Parts.{put_part}
use borrow.Rule.Slice.PartMut.{put_mid}

pub loop-b-init : goal.loop-b-init
unfolding blocks
loop-b-init c = search rules

pub loop-b-preserved : goal.loop-b-preserved
loop-b-preserved c =
    let index = c.args.index.now in
    let image = c.loop-b.image in
    let b = c.loop-b.b in
    let next : 512 * (b + 1) ≡ 512 * b + 512 = omega arith in
    ap (λ (l : List ℕ). put_mid (512 * b) (512 * b + 512 - 512 * b) image l) c.put_block.ensures
    ∙ put_part (blocks index b) (block index b) c.args.image.now image (512 * b) (512 * b + 512) (blocks-length index b) (omega arith) c.loop-b.invariant
    ∙ rw (blocks_more index b, next)
