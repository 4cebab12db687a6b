-- `items_taken::open_node` meets its contract: a leaf and an inner node are told apart by the first child.
-- Assumes nothing.
use Rattle.frontier.proofs.Queueing.{node_words_lem, room_at}
use Rattle.items_taken.proofs.open_node.Statement.{statement}
use Rattle.items_taken.proofs.open_node.Tie as tie
use Rattle.nearest_steps.proofs.Rounds.{node-there, taken-leaf}
use Rattle.rows_listed.proofs.MetRows.{listed-front}
use mathlib.Core.Path.{◌∙◌, sym}
use native.Mathlib.Omega.{arith}

node-child-requires : tie.Need-node_child-requires
node-child-requires c κs =
    let pre = c.requires in
    node_words_lem _ _ pre.0.room.shape (node-there _ _ _ _ _ _ _ _ _ _ _ _ pre.0)

mul-last : tie.Need-overflow_mul-n
mul-last c =
    let pre = c.requires in
    omega (arith, pre.1.0, pre.0.room.shape.whole.rows)

last-requires : tie.Need-last-far-requires
last-requires c κs =
    let pre = c.requires in
    omega (arith, pre.1.0, pre.0.ready.stands.room, pre.0.ready.stands.wanted)

open-leaf-requires : tie.Need-open_leaf-len-requires
open-leaf-requires c κs =
    let pre = c.requires in
    (room_at _ _ _ _ _ pre.1.0 pre.0.room, node-there _ _ _ _ _ _ _ _ _ _ _ _ pre.0)

same_length : tie.Need-shape_of-work-then-node_child-eq0
same_length c = c.open_leaf-len.ensures.outside.same

returns : tie.Need-returns-then-node_child-eq0
returns c =
    let pre = c.requires in
    let node-child = c.node_child in
    let if1 = c.if-node_child-eq0 in
    let last = c.last-far in
    let open-leaf = c.open_leaf-len in
    let room = room_at _ _ _ _ _ pre.1.0 pre.0.room in (
      taken-leaf _ _ _ _ _ _ _ _ _ _ _ _ pre.0 (sym node-child.ensures.0 ∙ if1.true) _ _ _ _ pre.1.0 last.ensures open-leaf.ensures,
      listed-front _ _ _ _ pre.1.1 _ _ _ (omega (arith, room.fits)) open-leaf.ensures.outside,
    )

open-inner-requires : tie.Need-open_inner-requires
open-inner-requires c κs =
    let pre = c.requires in
    let node-child = c.node_child in
    (pre.0, (pre.1.0, omega (arith, node-child.ensures.0), pre.1.1))

same-length-2 : tie.Need-shape_of-how
same-length-2 c = c.open_inner.ensures.0.grew.since.bytes

same-length-3 : tie.Need-shape_of-work
same-length-3 c = c.open_inner.ensures.0.grew.since.words

returns-2 : tie.Need-returns
returns-2 c = c.open_inner.ensures

pub open_node_spec : {M : Type 1} → statement M
open_node_spec =
    tie.close
    (tie.spec
    node-child-requires
    mul-last
    last-requires
    open-leaf-requires
    same_length
    returns
    open-inner-requires
    same-length-2
    same-length-3
    returns-2)
