-- `tallies::tally` meets its contract: a block's counts join those of the bytes before it. Assumes nothing.
use Rattle.std.proofs.Common.{arith, leb, ◌≡◌}
use Rattle.laws.proofs.Lists.{tally_take}
use Rattle.tallies.proofs.Tallies.{tally_part}
use Rattle.tallies.proofs.tally.Goals as goal
use Rattle.tree.specs.Nearest.{is_measured}

pub overflow_add-inside : goal.overflow_add-inside
overflow_add-inside c =
    let l = c.loop-i in
    let how = c.args.how.now in
    let e = c.block_end-end.result in
    omega (
      arith,
      tally_part (leb 2) how l.i e (omega arith) l.invariant.1 c.count_block-block.ensures.0,
      tally_take (leb 2) e how,
    )

pub overflow_add-measured : goal.overflow_add-measured
overflow_add-measured c =
    let l = c.loop-i in
    let how = c.args.how.now in
    let e = c.block_end-end.result in
    omega (
      arith,
      tally_part is_measured how l.i e (omega arith) l.invariant.2 c.count_block-block.ensures.1,
      tally_take is_measured e how,
    )

pub loop-i-preserved : goal.loop-i-preserved
loop-i-preserved c =
    let l = c.loop-i in
    let how = c.args.how.now in
    let e = c.block_end-end.result in (
      omega arith,
      tally_part (leb 2) how l.i e (omega arith) l.invariant.1 c.count_block-block.ensures.0,
      tally_part is_measured how l.i e (omega arith) l.invariant.2 c.count_block-block.ensures.1,
    )

pub returns : goal.returns
returns c =
    let l = c.loop-i in
    let e : l.i ≡ c.args.n = omega arith in
    (rw e at l.invariant.1, rw e at l.invariant.2)
