-- What taking an item does, by the shape alone: the rows under it are shared out, its bound does not fall, its size does. Assumes nothing.
use Prim.Native.Nat.{◌+◌, ◌-◌, ◌<◌, ◌≤◌, max, suc, zero, ℕ}
use Rattle.index_space.proofs.Leasts.{least-same}
use Rattle.index_space.specs.Items.{IndexItem, bound_of, centre_at, child_of, measured_by, measures_at, node, opened_by, opens_at, place, place_of, waits_node, waits_of}
use Rattle.laws.proofs.Bags.{total-upto, upto-same}
use Rattle.laws.proofs.Ones.{is_self}
use Rattle.laws.proofs.Sums.{sum_add, sum_below-same, sum_below-zero, sum_from, sum_front, sum_none, sum_ones, sum_part, sum_split}
use Rattle.laws.specs.Bags.{is, total, upto}
use Rattle.laws.specs.Upto.{sum_to}
use Rattle.words.proofs.Levels.{inner-is}
use Rattle.words.proofs.Tiles.{tile-head, tile-none, tile-tail}
use Rattle.words.specs.InShape.{InShape, Kids}
use Rattle.words.specs.Shape.{inner, tile}
use Rattle.words.specs.Words.{nodes#, child#, count#, first#, m#, row#, start#}
use borrow.Author.Tests.{eq-eqb}
use lib.Dec.{T}
use mathlib.Core.Bool.{false, not, true}
use mathlib.Core.List.{List}
use mathlib.Core.Path.{◌∙◌, ◌≡◌, ap, refl, subst}
use native.Mathlib.Nat.{not-suc-le-zero}
use native.Mathlib.Omega.{arith}

-- ---- runs that tile
-- where m runs tile from s on, the i-th starts at s and the counts of those before it
tile-from : (w : List ℕ) (j m s e i : ℕ) → T (tile w j m s e) → i < m → start# w (j + i) ≡ s + sum_to (λ (u : ℕ). count# w (j + u)) i
tile-from w j zero s e i t h = absurd (not-suc-le-zero h)
tile-from w j (suc m) s e zero t h =
    let z : j + 0 ≡ j = omega arith in
    ap (start# w) z ∙ tile-head w j m s e t ∙ omega (arith, sum_none (λ (u : ℕ). count# w (j + u)))
tile-from w j (suc m) s e (suc i) t h =
    let z : j + suc i ≡ suc j + i = omega arith in
    ap (start# w) z ∙ tile-from w (suc j) m (s + count# w j) e i (tile-tail w j m s e t) (omega arith) ∙ omega (arith, sum_from (count# w) j i)

-- s and the counts of all of them come to their end
tile-whole : (w : List ℕ) (j m s e : ℕ) → T (tile w j m s e) → s + sum_to (λ (u : ℕ). count# w (j + u)) m ≡ e
tile-whole w j zero s e t = omega (arith, tile-none w j s e t, sum_none (λ (u : ℕ). count# w (j + u)))
tile-whole w j (suc m) s e t = omega (arith, sum_from (count# w) j m, tile-whole w (suc j) m (s + count# w j) e (tile-tail w j m s e t))

-- the greater of two is no less than the first
rises : (b z : ℕ) → b - max b z ≡ 0
rises b z = omega arith

module _ (w : List ℕ) where
  -- ---- a node's run
  -- how often row r stands in node k's run
  run_of : ℕ → ℕ → ℕ
  run_of k r = sum_to (λ (i : ℕ). is r (row# w (start# w k + i))) (count# w k)

  -- a node's run is its first, and the rows that wait under it
  pub run-parts : (k r : ℕ) → 1 ≤ count# w k → sum_to (λ (i : ℕ). is r (row# w (start# w k + i))) (count# w k) ≡ is r (first# w k) + waits_node w k r
  run-parts k r h =
      let f : ℕ → ℕ = λ (i : ℕ). is r (row# w (start# w k + i)) in
      let e : count# w k ≡ suc (count# w k - 1) = omega arith in
      let z : start# w k + 0 ≡ start# w k = omega arith in
      ap (sum_to f) e ∙ sum_front f (count# w k - 1) ∙ ap (λ (p : ℕ). is r (row# w p) + waits_node w k r) z

  -- a node that has no child is no inner node
  pub inner-not : (k : ℕ) → child# w k ≡ 0 → inner w k ≡ false
  inner-not k e = ap not (eq-eqb (child# w k) 0 e)

  -- a node that has a child is an inner node
  pub inner-some : (k : ℕ) → 0 < child# w k → inner w k ≡ true
  inner-some k h = inner-is w k (λ e. omega arith)

  -- ---- an inner node
  module _ (S : InShape w) (k : ℕ) (h : k < nodes# w) (i : inner w k ≡ true) where
    -- its first child's number
    abbrev q : ℕ
    q = child# w k

    -- what the shape says of its children
    kids : Kids w k
    kids = (S.node k h).kids i

    -- each child is a node of the index
    pub kid_in : (j : ℕ) → j < m# w → q + j < nodes# w
    kid_in j l = omega (arith, kids.inside)

    -- no child's run is empty
    pub kid-some : (j : ℕ) → j < m# w → 1 ≤ count# w (q + j)
    kid-some j l = (S.node (q + j) (kid_in j l)).some

    -- THE CHILDREN'S RUNS ARE THE NODE'S: as many positions
    pub kids-count : sum_to (λ (j : ℕ). count# w (q + j)) (m# w) ≡ count# w k
    kids-count = omega (arith, tile-whole w q (m# w) (start# w k) (start# w k + count# w k) kids.tiled)

    -- a row stands in the runs of the first j children as often as in so much of the node's run
    runs_to : (r j : ℕ) → j ≤ m# w
        → sum_to (λ (u : ℕ). run_of (q + u) r) j ≡ sum_to (λ (u : ℕ). is r (row# w (start# w k + u))) (sum_to (λ (u : ℕ). count# w (q + u)) j)
    unfolding run_of sum_to
    runs_to r zero l = refl
    runs_to r (suc j) l =
        let f : ℕ → ℕ = λ (u : ℕ). is r (row# w (start# w k + u)) in
        let c : ℕ = sum_to (λ (u : ℕ). count# w (q + u)) j in
        let at : (u : ℕ) → start# w (q + j) + u ≡ start# w k + (c + u) =
        λ u. omega (arith, tile-from w q (m# w) (start# w k) (start# w k + count# w k) j kids.tiled (omega arith)) in
        omega (
          arith,
          runs_to r j (omega arith),
          sum_split f c (count# w (q + j)),
          sum_below-same (λ (u : ℕ). is r (row# w (start# w (q + j) + u))) (λ (u : ℕ). f (c + u)) (count# w (q + j))
              (λ u v. ap (λ (p : ℕ). is r (row# w p)) (at u)),
        )

    -- a row stands in the children's runs as often as in the node's
    kids-rows : (r : ℕ) → sum_to (λ (j : ℕ). run_of (q + j) r) (m# w) ≡ run_of k r
    unfolding run_of
    kids-rows r = runs_to r (m# w) (omega arith) ∙ ap (sum_to (λ (u : ℕ). is r (row# w (start# w k + u)))) kids-count

    -- the firsts of all children are the node's own and those that it measures
    firsts_rows : (r : ℕ)
        → sum_to (λ (j : ℕ). is r (first# w (q + j))) (m# w) ≡ is r (first# w k) + sum_to (λ (j : ℕ). is r (first# w (q + suc j))) (m# w - 1)
    firsts_rows r =
        let f : ℕ → ℕ = λ (j : ℕ). is r (first# w (q + j)) in
        let e : m# w ≡ suc (m# w - 1) = omega (arith, S.whole.fan.0) in
        let z : q + 0 ≡ q = omega arith in
        ap (sum_to f) e ∙ sum_front f (m# w - 1)
        ∙ ap (λ (p : ℕ). is r (row# w p) + sum_to (λ (j : ℕ). is r (first# w (q + suc j))) (m# w - 1)) (ap (start# w) z ∙ kids.same)

    -- WHAT WAITS UNDER IT IS WHAT IT MEASURES AND WHAT THEN WAITS UNDER ITS CHILDREN
    fork-split : (r : ℕ)
        → waits_node w k r ≡ sum_to (λ (j : ℕ). is r (first# w (q + suc j))) (m# w - 1) + sum_to (λ (j : ℕ). waits_node w (q + j) r) (m# w)
    unfolding run_of
    fork-split r =
        omega (
          arith,
          run-parts k r (S.node k h).some,
          kids-rows r,
          firsts_rows r,
          sum_below-same (λ (j : ℕ). run_of (q + j) r) (λ (j : ℕ). is r (first# w (q + j)) + waits_node w (q + j) r) (m# w)
              (λ j l. run-parts (q + j) r (kid-some j l)),
          sum_add (λ (j : ℕ). is r (first# w (q + j))) (λ (j : ℕ). waits_node w (q + j) r) (m# w),
        )

    -- a child has fewer rows
    kid-less : (j : ℕ) → j < m# w → count# w (q + j) < count# w k
    kid-less j l =
        omega (
          arith,
          kids-count,
          S.whole.fan.0,
          sum_part (λ (u : ℕ). count# w (q + u) - 1) (m# w) j l,
          sum_ones (m# w),
          sum_add (λ (u : ℕ). count# w (q + u) - 1) (λ (u : ℕ). 1) (m# w),
          sum_below-same (λ (u : ℕ). count# w (q + u)) (λ (u : ℕ). count# w (q + u) - 1 + 1) (m# w) (λ u v. omega (arith, kid-some u v)),
          kid-some j l,
        )

  -- ---- any item
  -- it is no node, or one of the index
  abbrev pub InTree : IndexItem → Type 0
  InTree (node k b x) = k < nodes# w
  InTree (place p b) = Unit {0}

  -- a node counts its rows and one more, a position nothing
  abbrev pub size_of : IndexItem → ℕ
  size_of (node k b x) = suc (count# w k)
  size_of (place p b) = 0

  module _ (d : ℕ → ℕ) where
    -- what is opened has no lower bound
    pub item-rises : (i : IndexItem) → total (λ (j : IndexItem). bound_of i - bound_of j) (opened_by w d i) ≡ 0
    item-rises (node k b x) = go (child# w k)
      where
        go : (q : ℕ) → total (λ (j : IndexItem). b - bound_of j) (opens_at w d q k b x) ≡ 0
        go zero =
            total-upto (λ (j : IndexItem). b - bound_of j) (place_of w k b x) (count# w k - 1)
            ∙ sum_below-zero (λ (j : ℕ). b - bound_of (place_of w k b x j)) (count# w k - 1) (λ j l. omega arith)
        go (suc q) =
            total-upto (λ (j : IndexItem). b - bound_of j) (child_of w d (suc q) b x) (m# w)
            ∙ sum_below-zero (λ (j : ℕ). b - bound_of (child_of w d (suc q) b x j)) (m# w) (λ j l. rises b _)
    item-rises (place p b) = refl

    module _ (S : InShape w) where
      -- A ROW THAT WAITS UNDER AN ITEM IS MEASURED BY IT, OR WAITS UNDER ONE THAT IT OPENS
      pub item-split : (i : IndexItem) (r : ℕ) → InTree i → waits_of w i r ≡ measured_by w i r + total (λ (j : IndexItem). waits_of w j r) (opened_by w d i)
      item-split (node k b x) r h = go (child# w k) refl
        where
          go : (q : ℕ) → child# w k ≡ q → waits_node w k r ≡ measures_at w q r + total (λ (j : IndexItem). waits_of w j r) (opens_at w d q k b x)
          go zero e = omega (arith, total-upto (λ (j : IndexItem). waits_of w j r) (place_of w k b x) (count# w k - 1))
          go (suc q) e =
              subst
              (λ (z : ℕ). waits_node w k r
              ≡ sum_to (λ (j : ℕ). is r (first# w (z + suc j))) (m# w - 1) + total (λ (j : IndexItem). waits_of w j r) (upto (child_of w d z b x) (m# w))) e
              (omega (
                arith,
                fork-split S k h (inner-some k (omega arith)) r,
                total-upto (λ (j : IndexItem). waits_of w j r) (child_of w d (child# w k) b x) (m# w),
              ))
      item-split (place p b) r h = omega arith

      -- what is opened is smaller
      pub item-falls : (i : IndexItem) → InTree i → total (λ (j : IndexItem). suc (size_of j) - size_of i) (opened_by w d i) ≡ 0
      item-falls (node k b x) h = go (child# w k) refl
        where
          go : (q : ℕ) → child# w k ≡ q → total (λ (j : IndexItem). suc (size_of j) - suc (count# w k)) (opens_at w d q k b x) ≡ 0
          go zero e =
              total-upto (λ (j : IndexItem). suc (size_of j) - suc (count# w k)) (place_of w k b x) (count# w k - 1)
              ∙ sum_below-zero (λ (j : ℕ). 1 - suc (count# w k)) (count# w k - 1) (λ j l. omega arith)
          go (suc q) e =
              subst (λ (z : ℕ). total (λ (j : IndexItem). suc (size_of j) - suc (count# w k)) (upto (child_of w d z b x) (m# w)) ≡ 0) e
              (total-upto (λ (j : IndexItem). suc (size_of j) - suc (count# w k)) (child_of w d (child# w k) b x) (m# w)
              ∙ sum_below-zero (λ (j : ℕ). suc (suc (count# w (child# w k + j))) - suc (count# w k)) (m# w)
              (λ j l. omega (arith, kid-less S k h (inner-some k (omega arith)) j l)))
      item-falls (place p b) h = refl

  -- what an item opens follows from the distances of the rows that it measures
  pub item-local : (d d' : ℕ → ℕ) (i : IndexItem) → ((r : ℕ) → 0 < measured_by w i r → d' r ≡ d r) → opened_by w d' i ≡ opened_by w d i
  item-local d d' (node k b x) h = go (child# w k) h
    where
      go : (q : ℕ) → ((r : ℕ) → 0 < measures_at w q r → d' r ≡ d r) → opens_at w d' q k b x ≡ opens_at w d q k b x
      go zero h = refl
      go (suc q) h =
          upto-same (child_of w d' (suc q) b x) (child_of w d (suc q) b x) (m# w)
          (λ j l. cc (centre j (omega arith), least-same (centre_at w d' (suc q) x) (centre_at w d (suc q) x) (m# w - 1) centre))
        where
          centre : (j : ℕ) → j ≤ m# w - 1 → centre_at w d' (suc q) x j ≡ centre_at w d (suc q) x j
          centre zero l = refl
          centre (suc j) l =
              let r : ℕ = first# w (suc q + suc j) in
              h r (omega (arith, sum_part (λ (i : ℕ). is r (first# w (suc q + suc i))) (m# w - 1) j (omega arith), is_self r))
  item-local d d' (place p b) h = refl
