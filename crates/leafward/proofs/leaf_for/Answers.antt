-- `leafward::leaf_for` meets its contract: the walk has come to a node of the way, and node numbers grow (`Walking`). Assumes nothing.
use Rattle.leafward.proofs.Walking.{walking-done, walking-later, walking_start, walking-step}
use native.Mathlib.Omega.{arith}
use Rattle.leafward.proofs.leaf_for.Goals as goal

pub loop-child-init : goal.loop-child-init
loop-child-init c = walking_start c.requires.new_row c.requires.bound c.node_child-child.ensures.0

pub loop-child-smaller : goal.loop-child-smaller
loop-child-smaller c =
    omega (arith, walking-later c.loop-child.invariant c.loop-child-test.true c.closest_child.ensures.1)

pub loop-child-preserved : goal.loop-child-preserved
loop-child-preserved c =
    walking-step c.loop-child.invariant c.loop-child-test.true c.closest_child.ensures c.node_child-child-in-loop-child.ensures.0

pub returns : goal.returns
returns c = walking-done c.loop-child.invariant c.loop-child-test.false
