-- `several_queries::mark_one` meets its contract: the how-bytes are cleared, and the search writes them. Assumes nothing.
use Rattle.std.proofs.Common.{arith, ap, drop, length, rules, sym, take, List, ℕ, ◌++◌, ◌∙◌, ◌≡◌, ◌≤◌}
use Rattle.buffers.specs.Wiped.{wiped}
use Rattle.marking.proofs.Fitted.{lent_same}
use Rattle.marking.specs.Written.{write}
use Rattle.measure.specs.Table.{from}
use Rattle.rowset.specs.Sets.{is_in_lem}
use Rattle.several_queries.proofs.mark_one.Goals as goal
use Rattle.tree.specs.Grove.{tree_of}
use Rattle.tree.specs.Radius.{marks, veiled}
use Rattle.words.specs.Words.{circles#}
use lib.ListN.{replicate}
use lib.Seq.{length-take-le}

pub rows-n-requires : goal.rows-n-requires
rows-n-requires c = omega (arith, c.requires.lent.tested.shape.whole.words)

pub slice_bounds-fill-end : goal.slice_bounds-fill-end
slice_bounds-fill-end c = omega (arith, c.requires.index_in_bounds, c.rows-n.ensures.0)

pub slice_bounds-fill-end-2 : goal.slice_bounds-fill-end-2
slice_bounds-fill-end-2 c =
    let h : c.rows-n.result ≤ length c.args.how.now = omega (arith, c.requires.index_in_bounds, c.rows-n.ensures.0) in
    sym (length-take-le _ _ h)

pub search-requires : goal.search-requires
search-requires c = lent_same c.requires.lent _ (search rules)

pub returns : goal.returns
returns c =
    let a = c.args in
    let n = c.rows-n.ensures.0 in
    let ms = veiled (is_in_lem a.withdrawn.now) (marks (from a.table.now a.c (circles# a.index.now) a.query.now) a.r (tree_of a.index.now)) in
    let h : c.rows-n.result ≤ length a.how.now = omega (arith, c.requires.index_in_bounds, n) in
    let clear : c.fill.new.self ≡ replicate (length (take c.rows-n.result a.how.now)) 0 = c.fill.ensures.after (λ y e. e) in
    let front : c.fill.new.self ≡ replicate c.rows-n.result 0 = clear ∙ ap (λ (k : ℕ). replicate k 0) (length-take-le _ _ h) in
    c.search.ensures.bytes
    ∙ ap (write ms) (ap (λ (x : List ℕ). x ++ drop c.rows-n.result a.how.now) front ∙ ap (λ (n : ℕ). wiped n a.how.now) n)
