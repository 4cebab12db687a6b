-- `row_joined::join_row` meets its contract: the leaf is found, its run is laid with the row, and the tree is written anew with it. Assumes nothing.
use Rattle.row_joined.proofs.Joining.{joins, laying, lent, regrowable, rooted}
use Rattle.row_joined.proofs.join_row.Goals as goal
use borrow.Author.Rules.{rules}
use native.Mathlib.Omega.{arith}

pub rows-z-requires : goal.rows-z-requires
rows-z-requires c = omega (arith, c.requires.shape.whole.words)

pub leaf_for-leaf-requires : goal.leaf_for-leaf-requires
leaf_for-leaf-requires c = record { new_row = lent c.requires c.rows-z.ensures.0; bound = rooted c.requires c.rows-z.ensures.0 }

pub lay_leaf-stays-requires : goal.lay_leaf-stays-requires
lay_leaf-stays-requires c = laying c.requires c.rows-z.ensures.0 c.leaf_for-leaf.ensures.there

pub limit_for-limit-requires : goal.limit_for-limit-requires
limit_for-limit-requires c = omega (arith, c.requires.shape.whole.words)

pub refill-nodes-requires : goal.refill-nodes-requires
refill-nodes-requires c = regrowable c.requires c.rows-z.ensures.0 c.leaf_for-leaf.ensures c.lay_leaf-stays.ensures c.limit_for-limit.ensures

pub returns : goal.returns
returns c =
    let e = c.rows-z.ensures.0 in
    let R = regrowable c.requires e c.leaf_for-leaf.ensures c.lay_leaf-stays.ensures c.limit_for-limit.ensures in
    joins c.requires e c.leaf_for-leaf.ensures c.lay_leaf-stays.ensures c.limit_for-limit.ensures (c.refill-nodes.ensures R) (search rules)
