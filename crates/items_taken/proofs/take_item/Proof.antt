-- `items_taken::take_item` meets its contract: the id tells a node from a position.
-- Assumes nothing.
use Prim.Native.Nat.{◌*◌, ◌+◌, ◌-◌, ◌<◌, ℕ}
use Rattle.frontier.proofs.Queueing.{place_words}
use Rattle.items_taken.proofs.take_item.Statement.{statement}
use Rattle.items_taken.proofs.take_item.Tie as tie
use Rattle.nearest_steps.proofs.Rounds.{node-taken, node-takes, place-row, place-taken, place_there}
use Rattle.words.proofs.Positions.{row_word}
use Rattle.words.specs.Words.{pair_at, row#}
use borrow.Author.Rules.{rules}
use lib.ListN.{length}
use mathlib.Core.Path.{◌∙◌, ◌≡◌}
use native.Mathlib.Omega.{arith}

-- seen from the reading of the id: the start
abbrev start : tie.After-id_of-id → tie.Start
start i = i.before.before.before.before.before.before.before

-- past the nodes' ids: the position, that it can be read, and that what is read is its row
abbrev place : tie.After-id_of-id → ℕ
place i = i.id_of-id.result - 2 * (start i).args.n

there : (e : tie.Else-id-n) → pair_at (start e.before).args.index.now (place e.before) + 1 < length (start e.before).args.index.now
there e =
    let i = e.before in
    let pre = (start i).requires in
    place_words _ _ pre.0.room.shape (place_there _ _ _ _ _ _ _ _ _ _ _ _ _ pre.1.0 i.id_of-id.ensures pre.0 (omega arith))

row : (c : tie.After-word-r) → c.word-r.result ≡ row# (start c.before.before).args.index.now (place c.before.before)
row c =
    let s = start c.before.before in
    c.word-r.ensures.0 ∙ row_word s.args.index.now s.args.base _ s.requires.1.1

mul-if1 : tie.Need-overflow_mul-n
mul-if1 c = omega (arith, (start c).requires.1.0, (start c).requires.0.room.shape.whole.rows)

open-node-requires : tie.Need-open_node-requires
open-node-requires c κs =
    let i = c.before.before.before.before in
    let pre = (start i).requires in
    (node-takes _ _ _ _ _ _ _ _ _ _ _ _ _ pre.1.0 i.id_of-id.ensures pre.0 _ c.key_of.ensures (omega arith), (pre.1.0, pre.1.2))

same_length : tie.Need-shape_of-how-then-id-n
same_length c = c.open_node.ensures.0.grew.since.bytes

same-length-2 : tie.Need-shape_of-work-then-id-n
same-length-2 c = c.open_node.ensures.0.grew.since.words

returns : tie.Need-returns-then-id-n
returns c =
    let o = c in
    let i = o.before.before.before.before.before.before.before.before.before in
    let pre = (start i).requires in (
      node-taken _ _ _ _ _ _ _ _ _ _ _ _ _ pre.1.0 i.id_of-id.ensures pre.0 _ o.key_of.ensures (omega arith) _ _ _ _
          o.open_node.ensures.0,
      o.open_node.ensures.1,
    )

mul-word : tie.Need-overflow_mul-n-2
mul-word c =
    let pre = (start c.before).requires in
    omega (arith, pre.1.0, pre.0.room.shape.whole.rows)

mul-word-2 : tie.Need-overflow_mul-id
mul-word-2 c = omega (arith, there c)

add-word : tie.Need-overflow_add-base
add-word c = omega (arith, there c, (start c.before).requires.1.1, (start c.before).well_formed)

word-requires : tie.Need-word-r-requires
word-requires c κs = omega (arith, there c, (start c.before).requires.1.1)

circles-requires : tie.Need-circles-o-requires
circles-requires c κs = omega (arith, (start c.before.before).requires.0.room.shape.whole.words)

measure-row-requires : tie.Need-measure_row-seen-requires
measure-row-requires c κs =
    let w = c in
    let i = w.before.before.before.before.before in
    let pre = (start i).requires in
    let p = place-row _ _ _ _ _ _ _ _ _ _ _ _ _ pre.1.0 i.id_of-id.ensures pre.0 (omega arith) _ _ (row w.before.before.before)
    c.circles-o.ensures in
    (p.0, (p.1, pre.1.2))

same-length-3 : tie.Need-shape_of-how
same-length-3 c = c.measure_row-seen.ensures.0.grew.since.bytes

same-length-4 : tie.Need-shape_of-work
same-length-4 c = c.measure_row-seen.ensures.0.grew.since.words

returns-2 : tie.Need-returns
returns-2 c =
    let m = c in
    let w = m in
    let i = w.before.before.before.before.before.before.before.before.before.before in
    let pre = (start i).requires in (
      place-taken _ _ _ _ _ _ _ _ _ _ _ _ _ pre.1.0 i.id_of-id.ensures pre.0 (omega arith) _ _ _ _ _ (row w.before.before.before.before.before.before.before.before)
          m.circles-o.ensures m.measure_row-seen.ensures.0,
      m.measure_row-seen.ensures.1,
    )

pub take_item_spec : {M : Type 1} → statement M
take_item_spec =
    tie.close
    (tie.spec
    (λ c κs. search rules)
    (λ c. search rules)
    mul-if1
    (λ c κs. search rules)
    open-node-requires
    same_length
    same-length-2
    returns
    mul-word
    (λ c. search rules)
    mul-word-2
    add-word
    word-requires
    circles-requires
    measure-row-requires
    same-length-3
    same-length-4
    returns-2)
