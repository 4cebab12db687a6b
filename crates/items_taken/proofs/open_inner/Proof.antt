-- `items_taken::open_inner` meets its contract: its centres are measured before the least of them and the last distance are looked for, and
-- these before its children are queued.
-- Assumes nothing.
use Rattle.frontier.proofs.Queueing.{node_words_lem, room_less}
use Rattle.items_taken.proofs.open_inner.Statement.{statement}
use Rattle.items_taken.proofs.open_inner.Tie as tie
use Rattle.nearest_steps.proofs.InnerNodes.{inner-asks, inner-done, inner-then}
use Rattle.nearest_steps.proofs.Rounds.{node-there}
use Rattle.rows_listed.proofs.MetRows.{listed-front}
use mathlib.Core.Path.{◌∙◌}
use native.Mathlib.Omega.{arith}

-- seen from the reading of the number of centres: the start; and from the measuring of the centres: that reading
abbrev start : tie.After-centres → tie.Start
start e = e.before.before.before.before.before.before.before.before

abbrev read : tie.After-measure_centres-seen → tie.After-centres
read m = m.before.before.before

node-child-requires : tie.Need-node_child-a-requires
node-child-requires c κs =
    let pre = c.requires in
    node_words_lem _ _ pre.0.room.shape (node-there _ _ _ _ _ _ _ _ _ _ _ _ pre.0)

centres-requires : tie.Need-centres-requires
centres-requires c κs = omega (arith, c.requires.0.room.shape.whole.words)

add-e : tie.Need-overflow_add-e
add-e c = omega (arith, c.node_child-a.ensures.1, c.centres.ensures.1)

measure-centres-requires : tie.Need-measure_centres-seen-requires
measure-centres-requires c κs =
    let e = c.before.before in
    let pre = (start e).requires in
    let a = inner-asks _ _ _ _ _ _ _ _ _ _ _ _ pre.0 pre.1.1 _ _ _ pre.1.0 e.node_child-a.ensures.0 e.centres.ensures.0 in
    (a.0, (a.1.0, a.1.1, a.1.2, a.1.3, pre.1.2))

nearest-centre-requires : tie.Need-nearest_centre-y-requires
nearest-centre-requires c κs =
    let m = c.before.before.before.before in
    let e = read m in
    let pre = (start e).requires in
    let child = e.node_child-a.ensures.0 in
    let a = inner-asks _ _ _ _ _ _ _ _ _ _ _ _ pre.0 pre.1.1 _ _ _ pre.1.0 child e.centres.ensures.0 in
    let r = inner-then _ _ _ _ _ _ _ _ _ _ _ _ pre.0 pre.1.1 _ _ _ _ _ _ pre.1.0 child e.centres.ensures.0
    m.measure_centres-seen.ensures.0 in
    (a.1.0, a.1.1, a.1.2, a.1.3, r.words)

mul-last : tie.Need-overflow_mul-n
mul-last c =
    let pre = (start (read c.before.before.before.before.before)).requires in
    omega (arith, pre.1.0, pre.0.room.shape.whole.rows)

last-requires : tie.Need-last-far-requires
last-requires c κs =
    let m = c in
    omega (arith, m.measure_centres-seen.ensures.0.alone.grew.stands.room, m.measure_centres-seen.ensures.0.alone.grew.stands.wanted)

queue-children-requires : tie.Need-queue_children-len-requires
queue-children-requires c κs =
    let m = c.before.before.before.before.before.before.before in
    let e = read m in
    let pre = (start e).requires in
    let child = e.node_child-a.ensures.0 in
    let a = inner-asks _ _ _ _ _ _ _ _ _ _ _ _ pre.0 pre.1.1 _ _ _ pre.1.0 child e.centres.ensures.0 in
    let r = inner-then _ _ _ _ _ _ _ _ _ _ _ _ pre.0 pre.1.1 _ _ _ _ _ _ pre.1.0 child e.centres.ensures.0
    m.measure_centres-seen.ensures.0 in
    (room_less _ _ _ _ _ _ r (omega (arith, e.centres.ensures.0)), (omega (arith, a.1.2), omega (arith, a.1.3)))

same_length : tie.Need-shape_of-how
same_length c =
    let m = c in
    m.measure_centres-seen.ensures.0.alone.grew.since.bytes

same-length-2 : tie.Need-shape_of-work
same-length-2 c =
    let m = c in
    c.queue_children-len.ensures.outside.same ∙ m.measure_centres-seen.ensures.0.alone.grew.since.words

returns : tie.Need-returns
returns c =
    let m = c.before.before.before.before.before.before.before.before.before.before in
    let e = read m in
    let pre = (start e).requires in
    let child = e.node_child-a.ensures.0 in
    let q = c.queue_children-len.ensures in
    let r = inner-then _ _ _ _ _ _ _ _ _ _ _ _ pre.0 pre.1.1 _ _ _ _ _ _ pre.1.0 child e.centres.ensures.0
    m.measure_centres-seen.ensures.0 in (
      inner-done _ _ _ _ _ _ _ _ _ _ _ _ pre.0 pre.1.1 _ _ _ _ _ _ _ _ _ _ _ pre.1.0 child
          e.centres.ensures.0 (omega (arith, e.centres.ensures.0)) c.last-far.ensures
          m.measure_centres-seen.ensures.0 c.nearest_centre-y.ensures q,
      listed-front _ _ _ _ m.measure_centres-seen.ensures.1 _ _ _ (omega (arith, r.fits, e.centres.ensures.0)) q.outside,
    )

pub open_inner_spec : {M : Type 1} → statement M
open_inner_spec =
    tie.close
    (tie.spec
    node-child-requires
    centres-requires
    add-e
    measure-centres-requires
    nearest-centre-requires
    mul-last
    last-requires
    queue-children-requires
    same_length
    same-length-2
    returns)
