-- `leaf_decision::decide` meets its contract: its two tests are those of the decision, in its order.
use Rattle.std.proofs.Common.{arith, le-leb, le-ltb, lt-ltb, ◌+◌, ◌<◌, ◌≤◌}
use Rattle.laws.specs.Lists.{gap}
use Rattle.leaf_decision.specs.Decision.{decision}
use borrow.Author.Tests.{lt-leb}
use Rattle.leaf_decision.proofs.decide.Goals as goal

pub returns-then-r-abs_diff : goal.returns-then-r-abs_diff
unfolding decision
returns-then-r-abs_diff c =
    let a = c.args in
    let h : a.r < gap a.x a.s = omega arith in
    simp (lt-ltb _ _ h)

pub returns-then-x-s : goal.returns-then-x-s
unfolding decision
returns-then-x-s c =
    let a = c.args in
    let h : gap a.x a.s ≤ a.r = omega arith in
    let k : a.x + a.s ≤ a.r = omega arith in
    simp (le-ltb _ _ h, le-leb _ _ k)

pub returns-else-x-s : goal.returns-else-x-s
unfolding decision
returns-else-x-s c =
    let a = c.args in
    let h : gap a.x a.s ≤ a.r = omega arith in
    let k : a.r < a.x + a.s = omega arith in
    simp (le-ltb _ _ h, lt-leb _ _ k)
