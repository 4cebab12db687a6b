-- `descent::search` meets its contract: the root's first is marked, and the root swept or descended, which are the tree's marks in their order.
-- Assumes nothing.
use Prim.Native.Nat.{◌<◌, ℕ}
use Rattle.descending.proofs.Ways.{root-did, root_none, settled-did}
use Rattle.descent.proofs.search.Statement.{statement}
use Rattle.descent.proofs.search.Tie as tie
use Rattle.fates.proofs.Settling.{not-opened-swept, root_opened, swept_did}
use Rattle.fates.specs.Settling.{fate_of_lem}
use Rattle.limits.specs.Limits.{max_depth}
use Rattle.marking.proofs.Did.{centre-did}
use Rattle.marking.proofs.Fitted.{lent_same, measurable}
use Rattle.marking.proofs.Listed.{leaves-as, leaves_by, leaves-full, leaves_none, leaves-then}
use Rattle.marking.specs.Listed.{Leaves}
use Rattle.marking.specs.Marks.{centre_at, first_at}
use Rattle.measure.specs.Table.{from}
use Rattle.rowset.specs.Sets.{is_in_lem}
use Rattle.tree.specs.Radius.{by_distance}
use Rattle.words.proofs.InShape.{left_root}
use Rattle.words.specs.Words.{nodes#, circles#, radius#}
use borrow.Author.Rules.{rules}
use mathlib.Core.Bool.{Bool}
use mathlib.Core.List.{List, [], ◌∷◌}
use mathlib.Core.Path.{◌∙◌, ◌≡◌, ap, sym}
use native.Mathlib.Omega.{arith}

returns : tie.Need-returns-then-nodes-eq0
returns c =
    let s = c in
    leaves-as _ _ (root_none _ _ s.args.index.now s.requires.tested.shape (sym c.nodes.ensures.0 ∙ c.if-nodes-eq0.true)) (leaves_none _ _)

node-first-requires : tie.Need-node_first-first-requires
node-first-requires c κs = (c.requires.tested.shape, omega arith)

query-distance-requires : tie.Need-query_distance-x-requires
query-distance-requires c κs =
    let m = measurable c.requires _ c.node_first-first.ensures.1 in
    (m.0, m.1, m.2)

mark-measured-requires : tie.Need-mark_measured-requires
mark-measured-requires c κs = (measurable c.requires _ c.node_first-first.ensures.1).3

-- ---- the root's first is measured: the start, seen from there; the index, the distances by a set of circles and the rows withdrawn
abbrev start : tie.After-mark_measured → tie.Start
start m = m.before.before.before.before.before.before.before.before.before.before.before.before.before.before

abbrev w : tie.After-mark_measured → List ℕ
w m = (start m).args.index.now

abbrev by : tie.After-mark_measured → ℕ → ℕ → ℕ
by m o i = from (start m).args.table.now (start m).args.c o (start m).args.query.now i

abbrev x : tie.After-mark_measured → ℕ → ℕ
x m = by m (circles# (w m))

abbrev gone : tie.After-mark_measured → ℕ → Bool
gone m = is_in_lem (start m).args.withdrawn.now

-- there is a root
some : (m : tie.After-mark_measured) → 0 < nodes# (w m)
some m = omega (arith, m.if-nodes-eq0.false, m.nodes.ensures.0)

-- its first is at the distance measured
at-root : (m : tie.After-mark_measured) → m.query_distance-x.result ≡ first_at (x m) (w m) 0
at-root m =
    m.query_distance-x.ensures.0 ∙ ap (λ (o : ℕ). by m o m.node_first-first.result) m.circles.ensures
    ∙ ap (x m) m.node_first-first.ensures.0

-- and marked
root-marked : (m : tie.After-mark_measured)
    → Leaves (gone m) (x m) (centre_at (x m) (start m).args.r (w m) 0) (start m).args.how.now m.mark_measured.new.how
    (start m).args.list.now m.mark_measured.new.list
root-marked m =
    let i = m.node_first-first.result in
    leaves-as (gone m) (x m) (centre-did (x m) (start m).args.r (w m) 0 m.node_first-first.ensures.0)
    (leaves_by (gone m) (by m) (λ x. (i, by_distance x (start m).args.r i) ∷ []) m.circles.ensures
    (leaves-full (gone m) (by m m.circles.result) (start m).args.r i m.query_distance-x.ensures.0 m.mark_measured.ensures))

node-radius-requires : tie.Need-node_radius-requires
node-radius-requires c κs =
    let m = c.before.before.before.before in
    ((start m).requires.tested.shape.whole, some m)

fate-of-requires : tie.Need-fate_of-fate-requires
fate-of-requires c κs =
    let m = c.before.before.before.before.before in
    (m.query_distance-x.ensures.1, omega (arith, ((start m).requires.tested.shape.node 0 (some m)).near, c.node_radius.ensures))

-- the root's first seen from the fate, which is the definition's
abbrev marked : tie.After-fate_of-fate → tie.After-mark_measured
marked f = f.before.before.before.before.before.before

fate : (f : tie.After-fate_of-fate) → f.fate_of-fate.result ≡ fate_of_lem (marked f).before.before.before.query_distance-x.result (radius# (w (marked f)) 0) 0 (start (marked f)).args.r
fate f =
    f.fate_of-fate.ensures
    ∙ ap (λ (R : ℕ). fate_of_lem (marked f).query_distance-x.result R 0 (start (marked f)).args.r) f.node_radius.ensures

sweep-requires : tie.Need-sweep-requires
sweep-requires c κs =
    let m = c.before.before.before.before.before.before.before.before.before in
    let L = lent_same (start m).requires m.mark_measured.new.how m.mark_measured.auto.how in
    (L.tested.shape, (some m, L.how))

same_length : tie.Need-shape_of-how-in-Swept
same_length c = c.sweep.auto.how ∙ c.mark_measured.auto.how

same-length-2 : tie.Need-shape_of-list-in-Swept
same-length-2 c = c.sweep.auto.list ∙ c.mark_measured.auto.list

returns-2 : tie.Need-returns-in-Swept
returns-2 c =
    let f = c.before.before.before.before.before.before.before.before in
    let m = marked f in
    let s = start m in
    let told = c.in-Swept.is in
    leaves-as (gone m) (x m) (root-did (x m) s.args.r (w m) s.requires.tested.shape (some m))
    (leaves-then (gone m) (x m) _ _ (root-marked m)
    (settled-did (gone m) (x m) s.args.r (w m) s.requires.tested.shape max_depth 0 0 (some m) (at-root m) _ (fate f) (not-opened-swept _ told)
    (swept_did (gone m) (w m) 0 _ told c.sweep.ensures)))

descend-requires : tie.Need-descend-requires
descend-requires c κs =
    let f = c.before.before.before in
    let m = marked f in (
      lent_same (start m).requires _ m.mark_measured.auto.how,
      (left_root _, some m, m.query_distance-x.ensures.1, at-root m, root_opened _ _ _ _ (fate f) c.in_default.not-Swept),
    )

same-length-3 : tie.Need-shape_of-how
same-length-3 c = c.descend.auto.how ∙ c.mark_measured.auto.how

same-length-4 : tie.Need-shape_of-list
same-length-4 c = c.descend.auto.list ∙ c.mark_measured.auto.list

returns-3 : tie.Need-returns
returns-3 c =
    let m = c.before.before.before.before.before.before.before.before.before.before.before.before.before.before in
    let s = start m in
    leaves-as (gone m) (x m) (root-did (x m) s.args.r (w m) s.requires.tested.shape (some m))
    (leaves-then (gone m) (x m) _ _ (root-marked m) c.descend.ensures)

pub search_spec : {M : Type 1} → statement M
search_spec =
    tie.close
    (tie.spec
    (λ c κs. search rules)
    returns
    node-first-requires
    (λ c κs. search rules)
    query-distance-requires
    mark-measured-requires
    node-radius-requires
    fate-of-requires
    (λ c. search rules)
    sweep-requires
    same_length
    same-length-2
    returns-2
    descend-requires
    same-length-3
    same-length-4
    returns-3)
