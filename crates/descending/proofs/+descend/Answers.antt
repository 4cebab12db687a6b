-- `descending::descend` meets its contract: an opened leaf's rows are marked, or the centres and then each child, which is swept, closed
-- or descended into; and a child has a level less left. Assumes nothing.
use Rattle.std.proofs.Common.{arith, ap, length, not, refl, sym, Bool, List, ℕ, ◌+◌, ◌-◌, ◌<◌, ◌∙◌, ◌≡◌, ◌≤◌}
use Rattle.descending.proofs.+descend.Goals as goal
use Rattle.descending.proofs.+descend.Goals.{in-Opened, in_default}
use Rattle.descending.proofs.Below.{below}
use Rattle.descending.proofs.Ways.{child_did, inner-opened, leaf-opened, settled-did}
use Rattle.fates.proofs.Settling.{still-opened}
use Rattle.marking.proofs.Fitted.{lent_same}
use Rattle.marking.proofs.Listed.{leaves-as, leaves-from, leaves-then, span-end, span-next, span_none}
use Rattle.marking.specs.Listed.{Leaves}
use Rattle.measure.specs.Table.{from}
use Rattle.opened.proofs.Distances.{least-is}
use Rattle.rowset.specs.Sets.{is_in_lem}
use Rattle.words.specs.Words.{child#, circles#, m#}
use borrow.Author.Tests.{eq-eqb}

-- what is left is left too in what is equal to it
ends : (gone : ℕ → Bool) (x : ℕ → ℕ) {ms : List (ℕ × ℕ)} {h h₁ h₂ l l₁ l₂ : List ℕ} → h₂ ≡ h₁ → l₂ ≡ l₁ → Leaves gone x ms h h₁ l l₁ → Leaves gone x ms h h₂ l l₂
ends gone x e q a = record { bytes = e ∙ a.bytes; rows = q ∙ a.rows }

pub returns-then-ch-eq0 : goal.returns-then-ch-eq0
returns-then-ch-eq0 t c =
    let a = c.args in
    let left = c.requires.left in
    let x = from a.table.now a.c (circles# a.index.now) a.query.now in
    leaves-as _ _
    (leaf-opened (is_in_lem a.withdrawn.now) x a.r a.index.now c.requires.lent.tested.shape a.levels a.k a.bound left.1 left.3 left.4
    (ap not (eq-eqb (child# a.index.now a.k) 0 (sym c.node_child-ch.ensures.0 ∙ c.if-ch-eq0.true)))) c.open_leaf.ensures

pub loop-j-init : goal.loop-j-init
loop-j-init t c =
    let a = c.args in
    let left = c.requires.left in
    let lent = c.requires.lent in
    let m = c.centres-m.ensures.0 in
    let inner = c.open_inner-ds in
    let fan = lent.tested.shape.whole.fan in (
      lent_same lent _ inner.auto.how,
      below lent.tested.shape a.levels a.k _ left.0 left.1 c.node_child-ch.ensures.0 c.if-ch-eq0.false,
      refl,
      refl,
      omega arith,
      m,
      inner.ensures.distances,
      c.least_of-y.ensures ∙ least-is (from a.table.now a.c (circles# a.index.now) a.query.now) a.index.now _ _ _ m (omega arith) (omega arith) inner.ensures.distances,
      span_none _ _ _ _ _ refl,
    )

pub settle-fate-requires-clause-k_bound : goal.settle-fate-requires-clause-k_bound
settle-fate-requires-clause-k_bound t c =
    let l = c.loop-j in
    let low : l.j < m# c.args.index.now = omega (arith, l.invariant.5) in
    (omega (arith, l.invariant.1.inside, low), l.invariant.0.how, l.invariant.6.near l.j low)

pub overflow_sub-levels : goal.overflow_sub-levels
overflow_sub-levels t c = omega (arith, c.loop-j.invariant.1.deeper)

pub descend-requires : goal.descend-requires
descend-requires t c =
    let l = c.loop-j in
    let kids = l.invariant.1 in
    let settling = c.settle-fate in
    let low : l.j < m# c.args.index.now = omega (arith, l.invariant.5) in (
      omega (arith, c.decreases, kids.deeper),
      (
        lent_same l.invariant.0 _ settling.auto.how,
        (kids.left l.j, omega (arith, kids.inside), l.invariant.6.near _ low, l.invariant.6.at _ low, sym c.in-Opened.is ∙ settling.ensures.fate),
      ),
    )

pub loop-j-preserved : goal.loop-j-preserved
loop-j-preserved t c =
    let a = c.args in
    let w = a.index.now in
    let l = c.loop-j in
    let settling = c.settle-fate in
    let x = from a.table.now a.c (circles# a.index.now) a.query.now in
    let gone = is_in_lem a.withdrawn.now in
    let ch = c.node_child-ch.result in
    let low : l.j < m# w = omega (arith, l.invariant.5) in
    let at = l.invariant.6.at l.j low in
    elim c.match-fate.branch [
      | in-Opened s ↦
          let still = still-opened gone w (ch + l.j) _ s.in-Opened.is settling.ensures.marks in (
            lent_same l.invariant.0 _ (ap length s.how-is ∙ s.descend.auto.how ∙ settling.auto.how),
            l.invariant.1,
            ap length s.how-is ∙ s.descend.auto.how ∙ settling.auto.how ∙ l.invariant.2,
            ap length s.list-is ∙ s.descend.auto.list ∙ settling.auto.list ∙ l.invariant.3,
            omega arith,
            l.invariant.5,
            l.invariant.6,
            l.invariant.7,
            span-next gone x _ 0 l.j (omega arith) l.invariant.8
                (leaves-as gone x (child_did x a.r w (a.levels - 1) a.bound ch l.j c.kid_bound-b.ensures l.invariant.7 at)
                (leaves-from gone x still.0 still.1 (ends gone x s.how-is s.list-is s.descend.ensures))),
          )
      | in_default s ↦ (
        lent_same l.invariant.0 _ (ap length s.how-is ∙ settling.auto.how),
        l.invariant.1,
        ap length s.how-is ∙ settling.auto.how ∙ l.invariant.2,
        ap length s.list-is ∙ settling.auto.list ∙ l.invariant.3,
        omega arith,
        l.invariant.5,
        l.invariant.6,
        l.invariant.7,
        span-next gone x _ 0 l.j (omega arith) l.invariant.8
            (leaves-as gone x (child_did x a.r w (a.levels - 1) a.bound ch l.j c.kid_bound-b.ensures l.invariant.7 at)
            (ends gone x s.how-is s.list-is
            (settled-did gone x a.r w l.invariant.0.tested.shape (a.levels - 1) (ch + l.j) _ (omega (arith, l.invariant.1.inside, l.invariant.5)) at _ settling.ensures.fate
            s.in_default.not-Opened settling.ensures.marks))),
      )
    ]

pub returns : goal.returns
returns t c =
    let a = c.args in
    let left = c.requires.left in
    let l = c.loop-j in
    let kids = l.invariant.1 in
    let x = from a.table.now a.c (circles# a.index.now) a.query.now in
    let gone = is_in_lem a.withdrawn.now in
    leaves-as gone x
    (inner-opened gone x a.r a.index.now c.requires.lent.tested.shape a.levels a.k a.bound left.1 left.3 left.4 _
    kids.deeper kids.inner_node kids.child)
    (leaves-then gone x _ _ c.open_inner-ds.ensures.marks (span-end gone x _ 0 l.j (omega (arith, l.invariant.5, l.invariant.4)) l.invariant.8))
