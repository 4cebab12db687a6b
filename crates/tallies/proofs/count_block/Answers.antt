-- `tallies::count_block` meets its contract: a byte adds 1 at most, and each byte what the tallies add for it. Assumes nothing.
use Rattle.std.proofs.Common.{arith, get_or, leb}
use Rattle.tallies.proofs.Tallies.{bit_most, tally_next}
use Rattle.tallies.proofs.count_block.Goals as goal
use Rattle.tree.specs.Nearest.{is_measured}

pub overflow_add-inside : goal.overflow_add-inside
overflow_add-inside c = omega (arith, c.one_in-inside.ensures, bit_most (leb 2 (get_or c.args.block.now c.loop-how.how-index 0)))

pub overflow_add-measured : goal.overflow_add-measured
overflow_add-measured c = omega (arith, c.one_measured-measured.ensures, bit_most (is_measured (get_or c.args.block.now c.loop-how.how-index 0)))

pub loop-how-preserved : goal.loop-how-preserved
loop-how-preserved c =
    let l = c.loop-how in
    let block = c.args.block.now in (
      omega (arith, c.one_in-inside.ensures, bit_most (leb 2 (get_or block l.how-index 0))),
      omega (arith, c.one_measured-measured.ensures, bit_most (is_measured (get_or block l.how-index 0))),
      tally_next (leb 2) block l.how-index (omega arith) l.invariant.2 c.one_in-inside.ensures,
      tally_next is_measured block l.how-index (omega arith) l.invariant.3 c.one_measured-measured.ensures,
    )
