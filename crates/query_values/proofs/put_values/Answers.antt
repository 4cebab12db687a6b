-- Each turn puts one value, up to the first item with which something is wrong.
use Rattle.query_values.proofs.Putting.{item-great, item-off, item-sound, item-value, puts-wrong, puts_none, putting-next, putting_start}
use Rattle.query_values.proofs.put_values.Goals as goal
use native.Mathlib.Omega.{arith}

pub loop-i-init : goal.loop-i-init
loop-i-init c = putting_start c.requires.0 c.requires.1

pub returns-in_default : goal.returns-in_default
returns-in_default c = (puts_none c.loop-i.invariant c.loop-i-test.true c.in_default.ensures, omega arith)

pub returns-in_default-times : goal.returns-in_default-times
returns-in_default-times c = (
  puts-wrong c.loop-i.invariant c.loop-i-test.true c.in-Some.ensures 24 (omega arith)
      (item-great c.in-Some.ensures _ 65536 c.in_default-times.ensures _ (omega arith)),
  omega arith,
)

pub returns-then-most-from : goal.returns-then-most-from
returns-then-most-from c =
    let v = c.in-Some-times.ensures in (
      puts-wrong c.loop-i.invariant c.loop-i-test.true c.in-Some.ensures 28 (omega arith)
          (item-off c.in-Some.ensures _ _ v.0 _ _ v.1 c.most.ensures (omega arith)),
      omega arith,
    )

pub loop-i-preserved : goal.loop-i-preserved
loop-i-preserved c =
    let f = c.in-Some.ensures in
    let v = c.in-Some-times.ensures in
    putting-next c.loop-i.invariant _ c.loop-i-test.true (item-value f _ _ v.0)
    (item-sound f _ _ v.0 _ _ v.1 c.most.ensures (omega arith))
