-- `several_queries::mark_each` meets its contract: search after search, what the first k of them leave. Assumes nothing.
use Rattle.std.proofs.Common.{arith, refl}
use Rattle.several_queries.proofs.Searches.{fit_lent, going_done, going-few, going_next, going_start, query_there}
use Rattle.several_queries.proofs.mark_each.Goals as goal

pub rows-n-requires : goal.rows-n-requires
rows-n-requires c = omega (arith, c.requires.tested.shape.whole.words)

pub nonzero_div-asked : goal.nonzero_div-asked
nonzero_div-asked c = omega (arith, c.requires.some)

pub loop-k-init : goal.loop-k-init
loop-k-init c = going_start c.requires c.rows-n.ensures.0 refl

pub row_of-requires : goal.row_of-requires
row_of-requires c = query_there _ _ _ c.requires.some (omega arith)

pub mark_one-requires : goal.mark_one-requires
mark_one-requires c =
    let l = c.loop-k in
    record {
      lent = fit_lent l.invariant.fit c.row_of.ensures.1 l.invariant.bytes;
      index_in_bounds = omega (arith, l.invariant.fit.bytes, l.invariant.bytes);
    }

pub measured_rows-measured-requires : goal.measured_rows-measured-requires
measured_rows-measured-requires c =
    let l = c.loop-k in
    omega (arith, l.invariant.fit.bytes, l.invariant.bytes, l.invariant.rows, c.mark_one.auto.how)

pub overflow_add-measured : goal.overflow_add-measured
overflow_add-measured c =
    let l = c.loop-k in
    let few = going-few l.invariant in
    omega (arith, l.invariant.few.1, l.invariant.bound, few, c.measured_rows-measured.ensures.1)

pub join-inside-requires : goal.join-inside-requires
join-inside-requires c =
    let l = c.loop-k in (
      omega (arith, l.invariant.fit.bytes, l.invariant.bytes, l.invariant.rows, c.mark_one.auto.how),
      omega (arith, l.invariant.fit.room, l.invariant.room, l.invariant.rows),
    )

pub overflow_add-inside : goal.overflow_add-inside
overflow_add-inside c =
    let l = c.loop-k in
    let few = going-few l.invariant in
    omega (arith, l.invariant.few.0, l.invariant.bound, few, c.join-inside.ensures.2)

pub loop-k-preserved : goal.loop-k-preserved
loop-k-preserved c =
    let l = c.loop-k in
    let found = c.join-inside.ensures in
    going_next l.invariant (omega arith) c.row_of.ensures.0 c.mark_one.ensures c.measured_rows-measured.ensures.0 found.0 found.1
    found.2

pub returns : goal.returns
returns c = going_done c.loop-k.invariant (omega arith)
