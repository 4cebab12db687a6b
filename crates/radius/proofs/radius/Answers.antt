-- `radius::radius` meets its contract: the how-bytes are cleared, the search writes them and the counts are taken from them. Assumes nothing.
use Rattle.std.proofs.Common.{arith, ap, drop, length, refl, rules, sym, take, List, ℕ, ◌++◌, ◌∙◌, ◌≡◌, ◌≤◌}
use Rattle.buffers.specs.Wiped.{wiped}
use Rattle.limits.specs.Said.{Said}
use Rattle.marking.proofs.Fitted.{lent_same}
use Rattle.marking.specs.Written.{write}
use Rattle.measure.specs.Table.{from}
use Rattle.radius.proofs.Answered.{done-is, none_said}
use Rattle.radius.proofs.radius.Goals as goal
use Rattle.radius_refusals.proofs.Refusals.{fits, room}
use Rattle.rowset.specs.Sets.{is_in_lem}
use Rattle.tree.proofs.Veiled.{veiled-same}
use Rattle.tree.specs.Grove.{tree_of}
use Rattle.tree.specs.Radius.{marks, veiled}
use Rattle.words.specs.Words.{circles#}
use lib.ListN.{replicate}
use lib.Seq.{length-take-le}

pub rows-n-requires : goal.rows-n-requires
rows-n-requires c = omega (arith, (fits _ _ _ _ _ c.args.how.now (none_said c.in_ok-test_radius.ensures)).tested.shape.whole.words)

pub slice_bounds-fill-end : goal.slice_bounds-fill-end
slice_bounds-fill-end c = omega (arith, room _ _ _ _ _ c.args.how.now (none_said c.in_ok-test_radius.ensures), c.rows-n.ensures.0)

pub slice_bounds-fill-end-2 : goal.slice_bounds-fill-end-2
slice_bounds-fill-end-2 c =
    let h : c.rows-n.result ≤ length c.args.how.now = omega (arith, room _ _ _ _ _ c.args.how.now (none_said c.in_ok-test_radius.ensures), c.rows-n.ensures.0) in
    sym (length-take-le _ _ h)

pub search-requires : goal.search-requires
search-requires c = lent_same (fits _ _ _ _ _ c.args.how.now (none_said c.in_ok-test_radius.ensures)) _ (search rules)

pub tally-counts-requires : goal.tally-counts-requires
tally-counts-requires c =
    let r = room _ _ _ _ _ c.args.how.now (none_said c.in_ok-test_radius.ensures) in
    let n = c.rows-n.ensures.0 in
    let s = c.search.auto.how in
    search rules

pub returns : goal.returns
returns c =
    let a = c.args in
    let n = c.rows-n.ensures.0 in
    let all = marks (from a.table.now a.c (circles# a.index.now) a.query.now) a.r (tree_of a.index.now) in
    let ms = veiled (is_in_lem a.withdrawn.now) all in
    let asked = c.words_asked-end in
    let h : c.rows-n.result ≤ length a.how.now = omega (arith, room _ _ _ _ _ a.how.now (none_said c.in_ok-test_radius.ensures), n) in
    let clear : c.fill.new.self ≡ replicate (length (take c.rows-n.result a.how.now)) 0 = c.fill.ensures.after (λ y e. e) in
    let front : c.fill.new.self ≡ replicate c.rows-n.result 0 = clear ∙ ap (λ (k : ℕ). replicate k 0) (length-take-le _ _ h) in
    done-is _ _ _ _ _ _ a.how.now (ap (λ (s : Said). s.0) c.in_ok-test_radius.ensures) _ refl
    (fits _ _ _ _ _ a.how.now (none_said c.in_ok-test_radius.ensures)).tested.shape n
    (c.search.ensures.bytes
    ∙ ap (λ ms. write ms (c.fill.new.self ++ drop c.rows-n.result a.how.now)) (veiled-same (is_in_lem (take asked.result a.withdrawn.now)) (is_in_lem a.withdrawn.now) asked.ensures.1 all)
    ∙ ap (write ms) (ap (λ (x : List ℕ). x ++ drop c.rows-n.result a.how.now) front ∙ ap (λ (n : ℕ). wiped n a.how.now) n))
    c.tally-counts.ensures.0 c.tally-counts.ensures.1
