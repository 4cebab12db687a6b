-- `circular_columns::off_circle` meets its contract: one column more, and nothing to look at where no bit is on.
use Rattle.std.proofs.Common.{arith, ◌≡◌, ◌∙◌, ◌&&◌, ap, sym}
use Rattle.circular_columns.proofs.off_circle.Goals as goal
use Rattle.laws.specs.Lists.{any, range}
use Rattle.measure.proofs.OnCircle.{off_next, plain_on}
use Rattle.measure.specs.Distance.{is_circle_lem}
use Rattle.measure.specs.Table.{column_off_lem, off_circle_lem, rows_of}

pub returns-then-circles-eq0 : goal.returns-then-circles-eq0
returns-then-circles-eq0 c =
    let e : c.args.circles ≡ 0 = omega arith in
    rw e (sym (plain_on c.args.table.now c.args.c))

pub loop-j-preserved : goal.loop-j-preserved
loop-j-preserved c =
    let a = c.args in
    off_next (λ k. is_circle_lem a.circles k && column_off_lem a.table.now a.c (rows_of a.table.now a.c) k) c.loop-j.j c.loop-j.off _ c.loop-j.invariant c.circle_off-off.ensures

pub returns : goal.returns
unfolding off_circle_lem
returns c =
    let a = c.args in
    let e : c.loop-j.j ≡ a.c = omega arith in
    c.loop-j.invariant ∙ ap (λ n. any (λ k. is_circle_lem a.circles k && column_off_lem a.table.now a.c (rows_of a.table.now a.c) k) (range 0 n)) e
