-- `dealing::deal_out` meets its contract: the first k children are dealt out (`Turn`).
-- Assumes nothing.
use Rattle.dealing.proofs.Children.{turn-ask, turn-done, turn_small, turn-start, turn_step}
use borrow.Author.Rules.{rules}
use native.Mathlib.Omega.{arith}
use Rattle.dealing.proofs.deal_out.Goals as goal

pub loop-k-init : goal.loop-k-init
loop-k-init c = λ g. turn-start g _ c.centres-m.ensures.0

pub deal_child-at-requires : goal.deal_child-at-requires
deal_child-at-requires c =
    let g = c.requires in
    turn-ask g _ (c.loop-k.invariant g) (omega arith)

pub overflow_add-at : goal.overflow_add-at
overflow_add-at c =
    let g = c.requires in
    let r = turn_small g _ (c.loop-k.invariant g) (omega arith) c.deal_child-at.ensures in
    omega (arith, r)

pub loop-k-preserved : goal.loop-k-preserved
loop-k-preserved c =
    λ g. turn_step g _ (c.loop-k.invariant g) (omega arith) (search rules) c.deal_child-at.ensures

pub shape_of-room : goal.shape_of-room
shape_of-room c =
    let g = c.requires in
    (c.loop-k.invariant g).wide

pub shape_of-work : goal.shape_of-work
shape_of-work c =
    let g = c.requires in
    (c.loop-k.invariant g).long

pub returns : goal.returns
returns c = λ g. turn-done g _ (c.loop-k.invariant g) (omega arith)
