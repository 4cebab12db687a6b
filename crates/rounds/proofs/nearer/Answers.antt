-- `rounds::nearer` meets its contract: the entry at p learns of the new centre (`Nearing`).
use Rattle.std.proofs.Common.{rules, arith, ◌+◌, ◌∙◌}
use Rattle.rounds.proofs.Nearing.{nearing-done, nearing-fits, nearing-row, nearing-step}
use Rattle.rounds.proofs.nearer.Goals as goal
use borrow.Rule.Slice.PartMut.{mid_len}

pub slice_bounds-nearer_one-end : goal.slice_bounds-nearer_one-end
slice_bounds-nearer_one-end c =
    let fits = nearing-fits c.loop-p.invariant (search rules) in
    search rules

pub nearer_one-requires : goal.nearer_one-requires
nearer_one-requires c =
    let fits = nearing-fits c.loop-p.invariant (search rules) in (
      c.requires.0,
      c.requires.1,
      mid_len c.loop-p.p (c.loop-p.p + 3) c.loop-p.part fits ∙ omega arith,
      nearing-row c.loop-p.invariant (search rules),
    )

pub loop-p-preserved : goal.loop-p-preserved
loop-p-preserved c = nearing-step c.loop-p.invariant _ (search rules) c.nearer_one.ensures

pub returns : goal.returns
returns c = nearing-done c.loop-p.invariant (search rules)
