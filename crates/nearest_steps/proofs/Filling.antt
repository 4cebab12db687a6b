-- How much is left to measure of the rows that remain: under an item, what it measures and what then waits under what it opens; under the root, all
-- positions but the first. Assumes nothing.
use Prim.Native.Nat.{◌+◌, ◌-◌, ◌<◌, ◌≤◌, suc, zero, ℕ}
use Rattle.index_space.proofs.Opening.{InTree, item-split}
use Rattle.index_space.specs.Items.{IndexItem, left_of, live_of, measured_by, node, opened_by, place, root_of, waits_of}
use Rattle.laws.proofs.Bags.{total_range}
use Rattle.laws.proofs.Ones.{is-not, is_self}
use Rattle.laws.proofs.Sums.{sum_add, sum_below-same, sum_below-zero, sum_change, sum_front}
use Rattle.laws.specs.Bags.{is, total}
use Rattle.laws.specs.Lists.{range, tally}
use Rattle.laws.specs.Upto.{sum_to}
use Rattle.nearest_steps.specs.Rounds.{amiss, still}
use Rattle.words.specs.InShape.{InShape}
use Rattle.words.specs.Words.{count#, first#, n#, row#, start#}
use mathlib.Core.Bool.{Bool, cond, false, not, true}
use mathlib.Core.List.{List, [], ◌∷◌}
use mathlib.Core.Path.{◌∙◌, ◌≡◌, ap, refl}
use native.Mathlib.Omega.{arith}

-- ---- sums over the rows that remain
-- what counts nothing counts nothing of these
pub left_zero : (gone : ℕ → Bool) (g : ℕ → ℕ) (r : ℕ) → g r ≡ 0 → left_of gone g r ≡ 0
left_zero gone g r e = go (gone r) e
  where
    go : (b : Bool) {v : ℕ} → v ≡ 0 → cond b 0 v ≡ 0
    go true e = refl
    go false e = e

-- what counts as two others do counts these as they do
pub left_add : (gone : ℕ → Bool) (g h k : ℕ → ℕ) (r : ℕ) → k r ≡ g r + h r → left_of gone k r ≡ left_of gone g r + left_of gone h r
left_add gone g h k r e = go (gone r)
  where
    go : (b : Bool) → cond b 0 (k r) ≡ cond b 0 (g r) + cond b 0 (h r)
    go true = refl
    go false = e

-- one row of n counts one where it remains
pub sum_one : (gone : ℕ → Bool) (n r : ℕ) → r < n → sum_to (left_of gone (λ (s : ℕ). is s r)) n ≡ live_of gone r
sum_one gone n r h =
    omega (
      arith,
      sum_change (λ (s : ℕ). 0) (left_of gone (λ (s : ℕ). is s r)) n r h (λ s l ne. left_zero gone (λ (s : ℕ). is s r) s (is-not s r ne)),
      sum_below-zero (λ (s : ℕ). 0) n (λ s l. refl),
      ap (λ (v : ℕ). cond (gone r) 0 v) (is_self r),
    )

-- k of them count as many as remain
sum_rows : (gone : ℕ → Bool) (f : ℕ → ℕ) (n k : ℕ) → ((i : ℕ) → i < k → f i < n)
    → sum_to (left_of gone (λ (r : ℕ). sum_to (λ (i : ℕ). is r (f i)) k)) n ≡ sum_to (λ (i : ℕ). live_of gone (f i)) k
unfolding sum_to
sum_rows gone f n zero h = sum_below-zero (left_of gone (λ (r : ℕ). 0)) n (λ r l. left_zero gone (λ (r : ℕ). 0) r refl)
sum_rows gone f n (suc k) h =
    let g : ℕ → ℕ = λ (r : ℕ). sum_to (λ (i : ℕ). is r (f i)) k in
    let last : ℕ → ℕ = λ (r : ℕ). is r (f k) in
    omega (
      arith,
      sum_below-same (left_of gone (λ (r : ℕ). g r + last r)) (λ (r : ℕ). left_of gone g r + left_of gone last r) n
          (λ r l. left_add gone g last (λ (r : ℕ). g r + last r) r refl),
      sum_add (left_of gone g) (left_of gone last) n,
      sum_rows gone f n k (λ i l. h i (omega arith)),
      sum_one gone n (f k) (h k (omega arith)),
    )

-- how many pass, as a total
tally_total : (f : ℕ → Bool) (xs : List ℕ) → tally f xs ≡ total (λ (j : ℕ). cond {A = ℕ} (f j) 1 0) xs
tally_total f [] = refl
tally_total f (j ∷ xs) = omega (arith, tally_total f xs)

-- how many of n positions hold a row that remains, f being their rows
tally_left : (gone : ℕ → Bool) (f : ℕ → ℕ) (n : ℕ) → tally (λ p. not (gone (f p))) (range 0 n) ≡ sum_to (λ (p : ℕ). live_of gone (f p)) n
tally_left gone f n =
    let z : (p : ℕ) → 0 + p ≡ p = λ p. omega arith in
    tally_total (λ p. not (gone (f p))) (range 0 n) ∙ total_range (λ (p : ℕ). cond {A = ℕ} (not (gone (f p))) 1 0) 0 n
    ∙ sum_below-same (λ (p : ℕ). cond {A = ℕ} (not (gone (f (0 + p)))) 1 0) (λ (p : ℕ). live_of gone (f p)) n
    (λ p l. turn (gone (f (0 + p))) ∙ ap (λ (p : ℕ). live_of gone (f p)) (z p))
  where
    turn : (b : Bool) → cond {A = ℕ} (not b) 1 0 ≡ cond b 0 1
    turn true = refl
    turn false = refl

-- summed by row and then by item, or the other way about
sum_list : (f : IndexItem → ℕ → ℕ) (n : ℕ) (xs : List IndexItem) → sum_to (λ (r : ℕ). total (λ (a : IndexItem). f a r) xs) n ≡ total (λ (a : IndexItem). sum_to (f a) n) xs
sum_list f n [] = sum_below-zero (λ (r : ℕ). 0) n (λ r l. refl)
sum_list f n (a ∷ xs) = omega (arith, sum_add (f a) (λ (r : ℕ). total (λ (b : IndexItem). f b r) xs) n, sum_list f n xs)

-- ---- items
-- a sound item is no node, or one of the index
in_tree : (w : List ℕ) (x : ℕ → ℕ) (work : List ℕ) (i : IndexItem) → amiss w x work i ≡ 0 → InTree w i
in_tree w x work (node k b u) g = omega arith
in_tree w x work (place p b) g = tt

-- what waits of a row that remains is shared out as all is
left_split : (b : Bool) (v a : ℕ) (f : IndexItem → ℕ) (xs : List IndexItem) → v ≡ a + total f xs
    → cond b 0 v ≡ cond b 0 a + total (λ (j : IndexItem). cond b 0 (f j)) xs
left_split true v a f xs e = omega (arith, none xs)
  where
    none : (xs : List IndexItem) → total (λ (j : IndexItem). 0) xs ≡ 0
    none [] = refl
    none (j ∷ xs) = omega (arith, none xs)
left_split false v a f xs e = e

-- UNDER A SOUND ITEM IS LEFT WHAT IT MEASURES, AND WHAT IS THEN LEFT UNDER WHAT IT OPENS, of the rows that remain
pub still-split : (w : List ℕ) → InShape w → (x : ℕ → ℕ) (gone : ℕ → Bool) (work : List ℕ) (i : IndexItem) → amiss w x work i ≡ 0
    → still w gone i ≡ sum_to (left_of gone (measured_by w i)) (n# w) + total (still w gone) (opened_by w x i)
still-split w S x gone work i g =
    omega (
      arith,
      sum_below-same (left_of gone (waits_of w i))
          (λ (r : ℕ). left_of gone (measured_by w i) r + total (λ (j : IndexItem). left_of gone (waits_of w j) r) (opened_by w x i)) (n# w)
          (λ r l. left_split (gone r) (waits_of w i r) (measured_by w i r) (λ (j : IndexItem). waits_of w j r) (opened_by w x i)
          (item-split w x S i r (in_tree w x work i g))),
      sum_add (left_of gone (measured_by w i)) (λ (r : ℕ). total (λ (j : IndexItem). left_of gone (waits_of w j) r) (opened_by w x i)) (n# w),
      sum_list (λ (j : IndexItem). left_of gone (waits_of w j)) (n# w) (opened_by w x i),
    )

-- ---- the root, where there are rows
module _ (w : List ℕ) (S : InShape w) (filled : 1 ≤ n# w) where
  -- its first is a row of the table
  pub root-row : first# w 0 < n# w
  root-row = (S.place (start# w 0) (omega (arith, (S.root filled).start))).row

  -- ITS FIRST, AND WHAT IS LEFT UNDER THE ROOT, ARE ALL POSITIONS THAT HOLD A ROW THAT REMAINS
  pub still-root : (x : ℕ → ℕ) (gone : ℕ → Bool)
      → live_of gone (first# w 0) + still w gone (root_of w x) ≡ tally (λ p. not (gone (row# w p))) (range 0 (n# w))
  still-root x gone =
      let R = S.root filled in
      let f : ℕ → ℕ = λ (p : ℕ). live_of gone (row# w (start# w 0 + p)) in
      let rows : n# w ≡ suc (count# w 0 - 1) = omega (arith, R.count) in
      let first : start# w 0 + 0 ≡ start# w 0 = omega arith in
      omega (
        arith,
        sum_rows gone (λ (i : ℕ). row# w (start# w 0 + suc i)) (n# w) (count# w 0 - 1)
            (λ i l. (S.place (start# w 0 + suc i) (omega (arith, R.start, R.count))).row),
        sum_front f (count# w 0 - 1),
        ap (λ (p : ℕ). live_of gone (row# w p)) first,
        tally_left gone (row# w) (n# w),
        ap (λ (k : ℕ). sum_to (λ (p : ℕ). live_of gone (row# w p)) k) rows,
        sum_below-same f (λ (p : ℕ). live_of gone (row# w p)) (suc (count# w 0 - 1))
            (λ p l. ap (λ (s : ℕ). live_of gone (row# w (s + p))) R.start ∙ shift p),
      )
    where
      shift : (p : ℕ) → live_of gone (row# w (0 + p)) ≡ live_of gone (row# w p)
      shift p =
          let z : 0 + p ≡ p = omega arith in
          ap (λ (p : ℕ). live_of gone (row# w p)) z
