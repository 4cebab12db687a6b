-- A word that stands in the index, then zeros behind its last, and the check word behind all of them.
use Rattle.std.proofs.Common.{◌-◌, ◌*◌, sym, rules, arith}
use Rattle.std.proofs.lemmas.Simd.{get_or-chunk}
use Rattle.blocks.specs.Blocks.{check_from, window}
use Rattle.image.proofs.Filled.{block-done, filled_more}
use Rattle.image.proofs.writing.put_block.Goals as goal
use lib.ListN.{get_or-eq_default}

pub loop-i-init : goal.loop-i-init
unfolding check_from window
loop-i-init c = search rules

pub loop-i-preserved : goal.loop-i-preserved
loop-i-preserved c =
    let first = 127 * c.args.b in
    filled_more c.args.index.now c.args.part.now c.loop-i.part _ c.args.b _ c.loop-i.i _ _ c.loop-i.invariant
    (get_or-chunk first (c.min-last.result - first) c.args.index.now c.loop-i.i 0 (omega arith)) c.stepped-check.ensures (omega arith) c.put_word.ensures (search rules)

pub loop-i-2-preserved : goal.loop-i-2-preserved
loop-i-2-preserved c =
    filled_more c.args.index.now c.args.part.now c.loop-i-2.part _ c.args.b _ c.loop-i-2.i 0 _ c.loop-i-2.invariant
    (sym (get_or-eq_default c.args.index.now 0 (omega arith))) c.stepped-check-in-loop-i-2.ensures (omega arith) c.put_word-in-loop-i-2.ensures (search rules)

pub returns : goal.returns
returns c = block-done c.args.index.now c.args.part.now c.loop-i-2.part _ c.args.b _ c.loop-i-2.i c.loop-i-2.invariant (omega arith) (omega arith) c.put_word-2.ensures
