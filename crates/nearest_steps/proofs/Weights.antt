-- What an item opens is sound where the item is, and stands for no more positions than it does. Assumes nothing.
use Prim.Native.Nat.{◌+◌, ◌-◌, ◌<◌, ◌≤◌, suc, zero, ℕ}
use Rattle.frontier.specs.Workspace.{kept}
use Rattle.index_space.proofs.Opening.{inner-some, kid_in, kid-some, kids-count}
use Rattle.index_space.specs.Items.{IndexItem, child_of, measures_at, node, opened_by, opens_at, place, place_of, weight}
use Rattle.laws.proofs.Bags.{total-upto}
use Rattle.laws.proofs.Ones.{is_self}
use Rattle.laws.proofs.Sums.{sum_add, sum_below-same, sum_below-zero, sum_ones, sum_part}
use Rattle.laws.specs.Bags.{is, total, upto}
use Rattle.laws.specs.Lists.{gap}
use Rattle.laws.specs.Upto.{sum_to}
use Rattle.nearest_steps.specs.Rounds.{amiss, centres_by}
use Rattle.words.specs.InShape.{InShape}
use Rattle.words.specs.Shape.{inner}
use Rattle.words.specs.Words.{nodes#, child#, count#, first#, m#, n#, row#, start#}
use mathlib.Core.Bool.{true}
use mathlib.Core.List.{List}
use mathlib.Core.Path.{◌∙◌, ◌≡◌, ap, refl, subst, sym}
use native.Mathlib.Omega.{arith}

-- twice an item's positions, less one: a round takes more of this than it puts back
abbrev pub cost : List ℕ → IndexItem → ℕ
cost w i = weight w i + weight w i - 1

-- a node of the index whose first's distance is kept has no fault
none-amiss : (k N u v : ℕ) → k < N → u ≡ v → (suc k - N) + gap u v ≡ 0
none-amiss k N u v h e = omega arith

-- a sound item stands for a position or more
pub some_weight : (w : List ℕ) → InShape w → (x : ℕ → ℕ) (work : List ℕ) (i : IndexItem) → amiss w x work i ≡ 0 → 1 ≤ weight w i
some_weight w S x work (node k b u) g = (S.node k (omega arith)).some
some_weight w S x work (place p b) g = omega arith

module _ (w : List ℕ) (S : InShape w) (x : ℕ → ℕ) where
  -- a node's first is a row of the table
  pub first-row : (k : ℕ) → k < nodes# w → first# w k < n# w
  first-row k h = (S.place (start# w k) (omega (arith, (S.node k h).run, (S.node k h).some))).row

  -- an item stays sound as long as no distance that was kept is lost
  pub amiss-on : (work work' : List ℕ) → ((r : ℕ) → r < n# w → kept work (n# w) r ≡ x r → kept work' (n# w) r ≡ x r) → (i : IndexItem)
      → amiss w x work i ≡ 0 → amiss w x work' i ≡ 0
  amiss-on work work' keeps (node k b u) g =
      none-amiss k (nodes# w) (kept work' (n# w) (first# w k)) (x (first# w k)) (omega arith)
      (keeps (first# w k) (first-row k (omega arith)) (omega arith))
  amiss-on work work' keeps (place p b) g = g

  -- ---- the children of a sound inner node
  module _ (work : List ℕ) (k b u : ℕ) (g : amiss w x work (node k b u) ≡ 0) (i : inner w k ≡ true) where
    -- it is a node of the index
    there : k < nodes# w
    there = omega arith

    -- they stand for as many positions as it does
    kids-weight : total (weight w) (upto (child_of w x (child# w k) b u) (m# w)) ≡ count# w k
    kids-weight = total-upto (weight w) (child_of w x (child# w k) b u) (m# w) ∙ kids-count w S k there i

    -- their costs are twice its positions, less one for each of them
    kids-cost : total (cost w) (upto (child_of w x (child# w k) b u) (m# w)) + m# w ≡ count# w k + count# w k
    kids-cost =
        let f : ℕ → ℕ = λ (j : ℕ). count# w (child# w k + j) in
        omega (
          arith,
          total-upto (cost w) (child_of w x (child# w k) b u) (m# w),
          kids-count w S k there i,
          sum_ones (m# w),
          sum_add (λ (j : ℕ). f j + f j - 1) (λ (j : ℕ). 1) (m# w),
          sum_add f f (m# w),
          sum_below-same (λ (j : ℕ). f j + f j - 1 + 1) (λ (j : ℕ). f j + f j) (m# w) (λ j l. omega (arith, kid-some w S k there i j l)),
        )

    -- they are sound, once the distances of its centres are kept
    kids-amiss : (work' : List ℕ) → kept work' (n# w) (first# w k) ≡ x (first# w k)
        → ((r : ℕ) → r < n# w → 0 < sum_to (λ (j : ℕ). is r (first# w (child# w k + suc j))) (m# w - 1) → kept work' (n# w) r ≡ x r)
        → total (amiss w x work') (upto (child_of w x (child# w k) b u) (m# w)) ≡ 0
    kids-amiss work' own seen =
        total-upto (amiss w x work') (child_of w x (child# w k) b u) (m# w)
        ∙ sum_below-zero
        (λ (j : ℕ). (suc (child# w k + j) - nodes# w) + gap (kept work' (n# w) (first# w (child# w k + j))) (x (first# w (child# w k + j)))) (m# w)
        (λ j l. none-amiss (child# w k + j) (nodes# w) (kept work' (n# w) (first# w (child# w k + j))) (x (first# w (child# w k + j)))
        (kid_in w S k there i j l) (each j l))
      where
        each : (j : ℕ) → j < m# w → kept work' (n# w) (first# w (child# w k + j)) ≡ x (first# w (child# w k + j))
        each zero l =
            let z : child# w k + 0 ≡ child# w k = omega arith in
            subst (λ (s : ℕ). kept work' (n# w) (row# w s) ≡ x (row# w s)) (sym (ap (start# w) z ∙ ((S.node k there).kids i).same)) own
        each (suc j) l =
            let r : ℕ = first# w (child# w k + suc j) in
            seen r (first-row (child# w k + suc j) (kid_in w S k there i (suc j) l))
            (omega (arith, sum_part (λ (j : ℕ). is r (first# w (child# w k + suc j))) (m# w - 1) j (omega arith), is_self r))

  -- ---- what a sound item opens
  -- it stands for no more positions
  pub opened-weight : (work : List ℕ) (i : IndexItem) → amiss w x work i ≡ 0 → total (weight w) (opened_by w x i) ≤ weight w i
  opened-weight work (node k b u) g = go (child# w k) refl
    where
      go : (q : ℕ) → child# w k ≡ q → total (weight w) (opens_at w x q k b u) ≤ count# w k
      go zero e = omega (arith, total-upto (weight w) (place_of w k b u) (count# w k - 1), sum_ones (count# w k - 1))
      go (suc q) e =
          subst (λ (z : ℕ). total (weight w) (upto (child_of w x z b u) (m# w)) ≤ count# w k) e
          (omega (arith, kids-weight work k b u g (inner-some w k (omega arith))))
  opened-weight work (place p b) g = omega arith

  -- it costs less
  pub opened-cost : (work : List ℕ) (i : IndexItem) → amiss w x work i ≡ 0 → total (cost w) (opened_by w x i) < cost w i
  opened-cost work (node k b u) g = go (child# w k) refl
    where
      go : (q : ℕ) → child# w k ≡ q → total (cost w) (opens_at w x q k b u) < count# w k + count# w k - 1
      go zero e =
          omega (arith, total-upto (cost w) (place_of w k b u) (count# w k - 1), sum_ones (count# w k - 1), some_weight w S x work (node k b u) g)
      go (suc q) e =
          subst (λ (z : ℕ). total (cost w) (upto (child_of w x z b u) (m# w)) < count# w k + count# w k - 1) e
          (omega (arith, kids-cost work k b u g (inner-some w k (omega arith)), S.whole.fan.0))
  opened-cost work (place p b) g = omega arith

  -- it is sound, once the distances of the centres that it measures are kept
  pub opened-amiss : (work work' : List ℕ) (i : IndexItem) → amiss w x work i ≡ 0
      → ((r : ℕ) → r < n# w → kept work (n# w) r ≡ x r → kept work' (n# w) r ≡ x r)
      → ((r : ℕ) → r < n# w → 0 < centres_by w i r → kept work' (n# w) r ≡ x r) → total (amiss w x work') (opened_by w x i) ≡ 0
  opened-amiss work work' (node k b u) g keeps seen = go (child# w k) refl seen
    where
      go : (q : ℕ) → child# w k ≡ q → ((r : ℕ) → r < n# w → 0 < measures_at w q r → kept work' (n# w) r ≡ x r)
          → total (amiss w x work') (opens_at w x q k b u) ≡ 0
      go zero e s =
          total-upto (amiss w x work') (place_of w k b u) (count# w k - 1)
          ∙ sum_below-zero (λ (j : ℕ). suc (start# w k + suc j) - n# w) (count# w k - 1) (λ j l. omega (arith, (S.node k (omega arith)).run))
      go (suc q) e s =
          subst
          (λ (z : ℕ). ((r : ℕ) → r < n# w → 0 < sum_to (λ (j : ℕ). is r (first# w (z + suc j))) (m# w - 1) → kept work' (n# w) r ≡ x r)
          → total (amiss w x work') (upto (child_of w x z b u) (m# w)) ≡ 0) e
          (kids-amiss work k b u g (inner-some w k (omega arith)) work' (keeps (first# w k) (first-row k (omega arith)) (omega arith))) s
  opened-amiss work work' (place p b) g keeps seen = refl
