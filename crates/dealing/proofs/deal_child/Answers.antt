-- `dealing::deal_child` meets its contract: its rows are picked, it is laid, and its node is written.
-- Assumes nothing.

use Rattle.dealing.proofs.Kids.{child-dealt, end_fits, kid-there, node_room, pick-ready, settle-ready}
use Rattle.words.specs.Words.{count#}
use borrow.Author.Rules.{rules}
use mathlib.Core.Path.{◌∙◌, ap}
use native.Mathlib.Omega.{arith}
use Prim.Native.Nat.{◌+◌, ℕ}
use Rattle.dealing.proofs.deal_child.Goals as goal

pub overflow_add-q : goal.overflow_add-q
overflow_add-q c =
    let r = kid-there c.requires c.node_child.ensures.0 in
    omega (arith, r)

pub node_count-own-requires : goal.node_count-own-requires
node_count-own-requires c =
    let g = c.requires in record { whole = g.deals.shape.whole; k_bound = (kid-there g c.node_child.ensures.0).0 }

pub overflow_cast-k : goal.overflow_cast-k
overflow_cast-k c =
    let own = c.node_count-own.ensures.0 ∙ ap (λ (i : ℕ). count# c.args.index.now (i + c.args.k)) c.node_child.ensures.0 in
    let g = c.requires in
    omega (arith, g.fits, g.deals.few, own, g.child, g.deals.shape.whole.fan.1)

pub overflow_mul-own : goal.overflow_mul-own
overflow_mul-own c =
    let own = c.node_count-own.ensures.0 ∙ ap (λ (i : ℕ). count# c.args.index.now (i + c.args.k)) c.node_child.ensures.0 in
    let g = c.requires in
    omega (arith, g.fits, g.deals.few, own, g.child, g.deals.shape.whole.fan.1)

pub overflow_add-to-2 : goal.overflow_add-to-2
overflow_add-to-2 c =
    let own = c.node_count-own.ensures.0 ∙ ap (λ (i : ℕ). count# c.args.index.now (i + c.args.k)) c.node_child.ensures.0 in
    let g = c.requires in
    omega (arith, g.fits, g.deals.few, own, g.child, g.deals.shape.whole.fan.1)

pub pick-g-requires : goal.pick-g-requires
pick-g-requires c =
    let own = c.node_count-own.ensures.0 ∙ ap (λ (i : ℕ). count# c.args.index.now (i + c.args.k)) c.node_child.ensures.0 in
    pick-ready c.requires own

pub overflow_add-count : goal.overflow_add-count
overflow_add-count c =
    let own = c.node_count-own.ensures.0 ∙ ap (λ (i : ℕ). count# c.args.index.now (i + c.args.k)) c.node_child.ensures.0 in
    let g = c.requires in
    let r = end_fits g own c.pick-g.ensures in
    omega (arith, r, g.deals.few)

pub overflow_mul-end : goal.overflow_mul-end
overflow_mul-end c =
    let own = c.node_count-own.ensures.0 ∙ ap (λ (i : ℕ). count# c.args.index.now (i + c.args.k)) c.node_child.ensures.0 in
    let g = c.requires in
    let r = end_fits g own c.pick-g.ensures in
    omega (arith, r, g.deals.few)

pub overflow_add-end : goal.overflow_add-end
overflow_add-end c =
    let own = c.node_count-own.ensures.0 ∙ ap (λ (i : ℕ). count# c.args.index.now (i + c.args.k)) c.node_child.ensures.0 in
    let g = c.requires in
    let r = end_fits g own c.pick-g.ensures in
    omega (arith, r, g.deals.few)

pub offset_bounds-work-to : goal.offset_bounds-work-to
offset_bounds-work-to c =
    let own = c.node_count-own.ensures.0 ∙ ap (λ (i : ℕ). count# c.args.index.now (i + c.args.k)) c.node_child.ensures.0 in
    let g = c.requires in
    let r = end_fits g own c.pick-g.ensures in
    omega (arith, r, g.deals.few)

pub slice_bounds-settle-count : goal.slice_bounds-settle-count
slice_bounds-settle-count c =
    let own = c.node_count-own.ensures.0 ∙ ap (λ (i : ℕ). count# c.args.index.now (i + c.args.k)) c.node_child.ensures.0 in
    let g = c.requires in
    let r = end_fits g own c.pick-g.ensures in
    omega (arith, r, g.deals.few)

pub slice_bounds-settle-start : goal.slice_bounds-settle-start
slice_bounds-settle-start c =
    let own = c.node_count-own.ensures.0 ∙ ap (λ (i : ℕ). count# c.args.index.now (i + c.args.k)) c.node_child.ensures.0 in
    let g = c.requires in
    let r = end_fits g own c.pick-g.ensures in
    omega (arith, r, g.deals.few)

pub slice_bounds-settle-end : goal.slice_bounds-settle-end
slice_bounds-settle-end c =
    let own = c.node_count-own.ensures.0 ∙ ap (λ (i : ℕ). count# c.args.index.now (i + c.args.k)) c.node_child.ensures.0 in
    let g = c.requires in
    let r = end_fits g own c.pick-g.ensures in
    search rules

pub settle-mark-requires : goal.settle-mark-requires
settle-mark-requires c =
    let own = c.node_count-own.ensures.0 ∙ ap (λ (i : ℕ). count# c.args.index.now (i + c.args.k)) c.node_child.ensures.0 in
    settle-ready c.requires own c.pick-g.ensures c.node_child.ensures.0

pub reach_with-reach-requires : goal.reach_with-reach-requires
reach_with-reach-requires c =
    let g = c.requires in record { in_shape = g.deals.shape; q_bound = ((kid-there g c.node_child.ensures.0).0, g.deals.edition) }

pub overflow_cast-at : goal.overflow_cast-at
overflow_cast-at c =
    let own = c.node_count-own.ensures.0 ∙ ap (λ (i : ℕ). count# c.args.index.now (i + c.args.k)) c.node_child.ensures.0 in
    let g = c.requires in
    let r = end_fits g own c.pick-g.ensures in
    omega (arith, r)

pub overflow_cast-count : goal.overflow_cast-count
overflow_cast-count c =
    let own = c.node_count-own.ensures.0 ∙ ap (λ (i : ℕ). count# c.args.index.now (i + c.args.k)) c.node_child.ensures.0 in
    let g = c.requires in
    let r = end_fits g own c.pick-g.ensures in
    omega (arith, r)

pub put_node-requires : goal.put_node-requires
put_node-requires c =
    omega (arith, c.requires.nodes, node_room c.args.room.now (c.args.made + c.args.k))

pub returns : goal.returns
returns c =
    let own = c.node_count-own.ensures.0 ∙ ap (λ (i : ℕ). count# c.args.index.now (i + c.args.k)) c.node_child.ensures.0 in
    λ g. child-dealt g own c.pick-g.ensures c.node_child.ensures.0 c.settle-mark.ensures.settles c.reach_with-reach.ensures (rw c.word.ensures at c.put_node.ensures)
