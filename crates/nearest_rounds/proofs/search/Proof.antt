-- `nearest_rounds::search` meets its contract: each round takes the item with the least bound, while it is due; what is left falls with each.
-- Assumes nothing.
use Prim.Native.Nat.{◌<◌, ◌≤◌}
use Rattle.frontier.specs.Waiting.{items}
use Rattle.index_space.specs.Items.{greatest_word}
use Rattle.laws.specs.Bags.{total}
use Rattle.measure.specs.Table.{from}
use Rattle.nearest_rounds.proofs.search.Statement.{statement}
use Rattle.nearest_rounds.proofs.search.Tie as tie
use Rattle.nearest_steps.proofs.Progress.{ends, popped-listed, round, round-less, round-since, stops, takes}
use Rattle.nearest_steps.proofs.Starting.{begins-since, begins-state, blank_listed, blank_ready}
use Rattle.nearest_steps.proofs.Staying.{ready_at, since_none}
use Rattle.nearest_steps.proofs.Weights.{cost}
use Rattle.nearest_steps.specs.Asked.{asks}
use Rattle.nearest_steps.specs.Rounds.{SearchState}
use Rattle.nearest_steps.specs.Standing.{Since}
use Rattle.queue.proofs.Queued.{empty_queue}
use Rattle.rows_listed.proofs.MetRows.{listed-at, listed-front}
use Rattle.rows_listed.specs.Listed.{ListedTo}
use Rattle.words.specs.Words.{circles#, n#}
use borrow.Author.Rules.{rules}
use mathlib.Core.Path.{◌∙◌}
use native.Mathlib.Omega.{arith}

abbrev invariant-loop : tie.invariant-loop-len
invariant-loop table c query index w withdrawn how₀ work₀ n base first o held₀ next₀ len₀ how work held next len =
    SearchState (asks table c index query w withdrawn) how work len held × Since (n# index) how₀ how work₀ work × ListedTo n how work next

abbrev decreases-loop : tie.decreases-loop-len
decreases-loop table c query index w withdrawn how₀ work₀ n base first o held₀ next₀ len₀ how work held next len = total (cost index)
    (items index (from table c (circles# index) query) work len)

-- seen from the loop: the root as it is queued, its first as it is measured, the number of rows as it is read, and the start
abbrev queued : tie.At-loop-len invariant-loop decreases-loop → tie.After-push invariant-loop decreases-loop
queued l = l.before.before.before

abbrev met : tie.At-loop-len invariant-loop decreases-loop → tie.After-measure_centre-seen invariant-loop decreases-loop
met l = (queued l).before.before.before.before.before.before

abbrev counted : tie.At-loop-len invariant-loop decreases-loop → tie.After-rows-n invariant-loop decreases-loop
counted l = (met l).before.before.before.before.before.before

abbrev start : tie.At-loop-len invariant-loop decreases-loop → tie.Start invariant-loop decreases-loop
start l = (counted l).before.before.before.before.before.before.before

-- seen from the entry that is taken out: the loop
abbrev turn : tie.After-pop-e invariant-loop decreases-loop → tie.At-loop-len invariant-loop decreases-loop
turn p = p.before.before.before

-- what lies beyond has stayed since the start
since : (l : tie.At-loop-len invariant-loop decreases-loop)
    → Since (n# (start l).args.index.now) (start l).args.how.now l.loop-len.how (start l).args.work.now l.loop-len.work
since l =
    begins-since _ _ _ (start l).args.index.now _ _ (start l).requires.filled _ _ _ _ _ _ _ _ _ (counted l).rows-n.ensures.0
    (met l).circles-o.ensures (met l).measure_centre-seen.ensures.0 (queued l).push.ensures _ _ l.loop-len.invariant.1

rows-requires : tie.Need-rows-n-requires invariant-loop decreases-loop
rows-requires c κs = omega (arith, c.requires.tested.shape.whole.words)

pair-at-requires : tie.Need-pair_at-base-requires invariant-loop decreases-loop
pair-at-requires c κs = omega (arith, c.requires.tested.shape.whole.words)

node-first-requires : tie.Need-node_first-first-requires invariant-loop decreases-loop
node-first-requires c κs =
    let pre = c.requires in
    (pre.tested.shape, (pre.tested.shape.root pre.filled).there)

circles-requires : tie.Need-circles-o-requires invariant-loop decreases-loop
circles-requires c κs = omega (arith, c.requires.tested.shape.whole.words)

mul-measure-centre : tie.Need-overflow_mul-n invariant-loop decreases-loop
mul-measure-centre c =
    let pre = c.requires in
    omega (arith, c.rows-n.ensures.0, pre.tested.shape.whole.rows)

measure-centre-requires : tie.Need-measure_centre-seen-requires invariant-loop decreases-loop
measure-centre-requires c κs =
    let s = c in
    let rows = c.rows-n in
    let node-first = c.node_first-first in
    let circles = c.circles-o in (
      ready_at _ _ _ s.args.index.now _ _ _ _ _ _ _ rows.ensures.0 circles.ensures (blank_ready _ _ _ s.requires),
      (
        omega (arith, node-first.ensures.1, rows.ensures.0),
        blank_listed _ _ _ _ _ rows.ensures.0 (omega arith) s.requires,
      ),
    )

push-requires : tie.Need-push-requires invariant-loop decreases-loop
push-requires c κs =
    let m = c in
    let rows = m.rows-n in
    let pre = m.requires in
    (empty_queue _ 0 (omega arith), omega (arith, m.measure_centre-seen.ensures.0.alone.grew.stands.room, rows.ensures.0, pre.filled))

loop-holds : tie.Need-loop-len-init invariant-loop decreases-loop
loop-holds c =
    let p = c in
    let m = p in
    let circles = m.circles-o in
    let node-first = m.node_first-first in
    let rows = m.rows-n in
    let s = m in (
      begins-state _ _ _ s.args.index.now _ _ s.requires.filled _ _ _ _ _ _ _ _ _ rows.ensures.0 circles.ensures
          m.measure_centre-seen.ensures.0
          p.push.ensures s.requires.tested.shape node-first.ensures.0 s.requires.blank (blank_ready _ _ _ s.requires),
      since_none _ _ _,
      listed-front _ _ _ _ m.measure_centre-seen.ensures.1 _ _ _ (omega (arith, rows.ensures.0, s.requires.filled)) p.push.ensures.outside,
    )

pop-requires : tie.Need-pop-e-requires invariant-loop decreases-loop
pop-requires c κs = (c.loop-len.invariant.0.queue, c.loop-len-test.true)

mul-last : tie.Need-overflow_mul-n-in-loop-len invariant-loop decreases-loop
mul-last c =
    let l = c.before.before.before.before.before in
    omega (arith, (counted l).rows-n.ensures.0, (start l).requires.tested.shape.whole.rows)

last-requires : tie.Need-last-requires invariant-loop decreases-loop
last-requires c κs =
    let p = c.before.before in
    let l = turn p in
    omega (arith, p.pop-e.ensures.outside.same, l.loop-len.invariant.0.ready.stands.room, (counted l).rows-n.ensures.0, (start l).requires.filled)

same_length : tie.Need-shape_of-how-then-last-key_of invariant-loop decreases-loop
same_length c = (since (turn c.before.before.before.before.before)).bytes

same-length-2 : tie.Need-shape_of-work-then-last-key_of invariant-loop decreases-loop
same-length-2 c =
    let p = c.before.before.before.before.before in
    p.pop-e.ensures.outside.same ∙ (since (turn p)).words

returns : tie.Need-returns-then-last-key_of invariant-loop decreases-loop
returns c =
    let word : c.key_of.result ≤ greatest_word = omega arith in
    let far : c.last.result < c.key_of.result = omega arith in
    let p = c.before.before.before.before.before in
    let l = turn p in (
      stops _ _ _ _ _ _ (start l).requires.tested.shape _ _ _ _ l.loop-len.invariant.0 _ _ p.pop-e.ensures p.loop-len-test.true _ _ _
          (counted l).rows-n.ensures.0 c.last.ensures c.key_of.ensures word far _ _ (since l),
      listed-at (start l).args.index.now (counted l).rows-n.ensures.0
          (popped-listed _ _ _ _ _ _ (start l).requires.tested.shape _ _ _ _ l.loop-len.invariant.0 _ _ p.pop-e.ensures
          p.loop-len-test.true _ _ (counted l).rows-n.ensures.0 l.loop-len.invariant.2),
    )

sub-take-item : tie.Need-overflow_sub-len invariant-loop decreases-loop
sub-take-item c = omega (arith, c.loop-len-test.true)

take-item-requires : tie.Need-take_item-sizes-requires invariant-loop decreases-loop
take-item-requires c κs =
    let p = c.before.before.before.before.before.before.before in
    let l = turn p in (
      takes _ _ _ _ _ _ (start l).requires.tested.shape _ _ _ _ l.loop-len.invariant.0 _ _ p.pop-e.ensures p.loop-len-test.true
          (start l).requires.tested.edition,
      (
        (counted l).rows-n.ensures.0,
        (met l).pair_at-base.ensures,
        popped-listed _ _ _ _ _ _ (start l).requires.tested.shape _ _ _ _ l.loop-len.invariant.0 _ _ p.pop-e.ensures
            p.loop-len-test.true _ _ (counted l).rows-n.ensures.0 l.loop-len.invariant.2,
      ),
    )

loop-less : tie.Need-loop-len-smaller invariant-loop decreases-loop
loop-less c =
    let t = c in
    let p = t.before.before.before.before.before.before.before.before.before.before.before.before in
    let l = turn p in
    round-less _ _ _ _ _ _ (start l).requires.tested.shape _ _ _ _ l.loop-len.invariant.0 _ _ p.pop-e.ensures p.loop-len-test.true _ _ _ _
    t.take_item-sizes.ensures.0

loop-again : tie.Need-loop-len-preserved invariant-loop decreases-loop
loop-again c =
    let t = c in
    let p = t.before.before.before.before.before.before.before.before.before.before.before.before in
    let l = turn p in
    let key_of = t.key_of in
    let last = t.last in (
      round _ _ _ _ _ _ (start l).requires.tested.shape _ _ _ _ l.loop-len.invariant.0 _ _ p.pop-e.ensures p.loop-len-test.true _ _ _ _
          t.take_item-sizes.ensures.0 (start l).requires.filled _ _ _ (counted l).rows-n.ensures.0 last.ensures key_of.ensures (omega arith) (omega arith),
      round-since _ _ _ _ _ _ (start l).requires.tested.shape _ _ _ _ l.loop-len.invariant.0 _ _ p.pop-e.ensures
          p.loop-len-test.true _ _ _ _
          t.take_item-sizes.ensures.0 _ _ l.loop-len.invariant.1,
      t.take_item-sizes.ensures.1,
    )

same-length-3 : tie.Need-shape_of-how invariant-loop decreases-loop
same-length-3 c = (since c.before).bytes

same-length-4 : tie.Need-shape_of-work invariant-loop decreases-loop
same-length-4 c = (since c.before).words

returns-2 : tie.Need-returns invariant-loop decreases-loop
returns-2 c =
    let l = c.before in (
      ends _ _ _ _ _ _ (start l).requires.tested.shape _ _ _ _ l.loop-len.invariant.0 _ _ (since l) (omega arith),
      listed-at (start l).args.index.now (counted l).rows-n.ensures.0 l.loop-len.invariant.2,
    )

pub search_spec : {M : Type 1} → statement M
search_spec =
    tie.close
    (tie.spec
    invariant-loop
    decreases-loop
    rows-requires
    pair-at-requires
    node-first-requires
    circles-requires
    mul-measure-centre
    measure-centre-requires
    push-requires
    loop-holds
    pop-requires
    mul-last
    last-requires
    (λ c κs. search rules)
    same_length
    same-length-2
    returns
    sub-take-item
    take-item-requires
    loop-less
    loop-again
    same-length-3
    same-length-4
    returns-2)
