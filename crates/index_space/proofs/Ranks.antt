-- The distance D of the last of w answers, among the rows that remain: fewer than w of them are closer than D, and w are at most at D. Assumes
-- nothing.
use Prim.Native.Nat.{◌+◌, ◌-◌, ◌<◌, ◌≤◌, min, suc, zero, ℕ}
use Rattle.best_first.proofs.Keeps.{closer_le}
use Rattle.best_first.specs.Search.{rows_closer}
use Rattle.index_space.proofs.Laws.{live_bit}
use Rattle.index_space.specs.Items.{left_of, live_of}
use Rattle.index_space.specs.Run.{all_rows}
use Rattle.laws.proofs.Bags.{total-map, total_range}
use Rattle.laws.proofs.Every.{every_of}
use Rattle.laws.proofs.Keeping.{total-keep}
use Rattle.laws.proofs.Ones.{is_self}
use Rattle.laws.proofs.Sums.{sum_add, sum_below_le, sum_below-same, sum_ones, sum_part}
use Rattle.laws.specs.Bags.{is, total}
use Rattle.laws.specs.Every.{Every}
use Rattle.laws.specs.Lists.{keep, range}
use Rattle.laws.specs.Upto.{sum_to}
use Rattle.tree.proofs.Sorted.{Le, Sorted, sort_sorted}
use Rattle.tree.specs.Nearest.{answers, before, candidates, insert, last_distance, passes, sort}
use borrow.Author.Tests.{leb-false, leb-true, ltb-false, ltb-true}
use lib.Dec.{leb, ltb}
use lib.ListN.{length, take}
use mathlib.Core.Bool.{Bool, ◌||◌, cond, false, not, true}
use mathlib.Core.List.{List, [], ◌∷◌}
use mathlib.Core.Logic.{◌↔◌}
use mathlib.Core.Path.{◌∙◌, ◌≡◌, ap, refl, subst, sym}
use native.Mathlib.Decide.{ℕ_discrete}
use native.Mathlib.Omega.{arith}

-- ---- sorting keeps every total
-- an answer that is inserted adds its weight
total_insert : (f : ℕ × ℕ → ℕ) (a : ℕ × ℕ) (s : List (ℕ × ℕ)) → total f (insert a s) ≡ f a + total f s
total_insert f a [] = refl
total_insert f a (b ∷ s) = go (before a b) (total_insert f a s)
  where
    go : (p : Bool) → total f (insert a s) ≡ f a + total f s → total f (cond p (a ∷ b ∷ s) (b ∷ insert a s)) ≡ f a + (f b + total f s)
    go true ih = refl
    go false ih = omega arith

-- a list and the list sorted have the same total
pub total_sort : (f : ℕ × ℕ → ℕ) (l : List (ℕ × ℕ)) → total f (sort l) ≡ total f l
total_sort f [] = refl
total_sort f (a ∷ l) = omega (arith, total_insert f a (sort l), total_sort f l)

-- ---- in a sorted list
-- 1 where an answer is closer than k
abbrev nearer : ℕ → ℕ × ℕ → ℕ
nearer k a = min 1 (k - a.1)

-- none is closer than k where each is at k or farther
none_nearer : (k : ℕ) (s : List (ℕ × ℕ)) → Every (λ b. k ≤ b.1) s → total (nearer k) s ≡ 0
none_nearer k [] h = refl
none_nearer k (b ∷ s) h = omega (arith, h.0, none_nearer k s h.1)

-- the first of a sorted list is no farther than the last of its first k + 1
up_last : (b : ℕ × ℕ) (s : List (ℕ × ℕ)) (k : ℕ) → Sorted (b ∷ s) → b.1 ≤ last_distance (take (suc k) (b ∷ s))
up_last b s zero h = omega arith
up_last b [] (suc k) h = omega arith
up_last b (c ∷ s) (suc k) h = omega (arith, h.0.0.0, up_last c s k h.1)

-- of a sorted list, fewer than k + 1 are closer than the last of its first k + 1
few_sorted : (s : List (ℕ × ℕ)) (k : ℕ) → Sorted s → suc k ≤ total (λ (a : ℕ × ℕ). 1) s → total (nearer (last_distance (take (suc k) s))) s < suc k
few_sorted [] k h l = absurd (omega arith)
few_sorted (a ∷ s) zero h l = omega (arith, none_nearer a.1 s (every_of (Le a) (λ b. a.1 ≤ b.1) (λ b q. q.0) s h.0))
few_sorted (a ∷ []) (suc k) h l = absurd (omega arith)
few_sorted (a ∷ b ∷ s) (suc k) h l = omega (arith, few_sorted (b ∷ s) k h.1 (omega arith))

-- and k + 1 are at most at that distance
many_sorted : (s : List (ℕ × ℕ)) (k : ℕ) → Sorted s → suc k ≤ total (λ (a : ℕ × ℕ). 1) s
    → suc k ≤ total (nearer (last_distance (take (suc k) s) + 1)) s
many_sorted [] k h l = absurd (omega arith)
many_sorted (a ∷ s) zero h l = omega arith
many_sorted (a ∷ []) (suc k) h l = absurd (omega arith)
many_sorted (a ∷ b ∷ s) (suc k) h l = omega (arith, h.0.0.0, up_last b s k h.1, many_sorted (b ∷ s) k h.1 (omega arith))

-- a list's length is a total
length_total : (l : List (ℕ × ℕ)) → length l ≡ total (λ (a : ℕ × ℕ). 1) l
length_total [] = refl
length_total (a ∷ l) = omega (arith, length_total l)

-- a total over all rows, with their distances
pub over_all : (x : ℕ → ℕ) (n : ℕ) (f : ℕ × ℕ → ℕ) → total f (all_rows x n) ≡ sum_to (λ (i : ℕ). f (i, x i)) n
over_all x n f =
    let z : (i : ℕ) → 0 + i ≡ i = λ i. omega arith in
    total-map f (λ i. (i, x i)) (range 0 n) ∙ total_range (λ (i : ℕ). f (i, x i)) 0 n
    ∙ sum_below-same (λ (i : ℕ). f (0 + i, x (0 + i))) (λ (i : ℕ). f (i, x i)) n (λ i l. ap (λ (z : ℕ). f (z, x z)) (z i))

-- ---- among the rows that remain
module _ (x : ℕ → ℕ) (gone : ℕ → Bool) (n : ℕ) where
  -- how many of the rows that remain are closer than k
  abbrev pub nearer_than : ℕ → ℕ
  nearer_than k = rows_closer n (live_of gone) x k

  -- a total over the candidates is one over the rows that remain
  pub over-rows : (f : ℕ × ℕ → ℕ) → total f (candidates x gone n) ≡ sum_to (λ (i : ℕ). left_of gone (λ (i : ℕ). f (i, x i)) i) n
  over-rows f =
      let z : (i : ℕ) → 0 + i ≡ i = λ i. omega arith in
      total-map f (λ i. (i, x i)) (keep (λ i. not (gone i)) (range 0 n))
      ∙ total-keep (λ (i : ℕ). f (i, x i)) (λ i. not (gone i)) (range 0 n)
      ∙ total_range (λ (i : ℕ). cond (not (gone i)) (f (i, x i)) 0) 0 n
      ∙ sum_below-same (λ (i : ℕ). cond (not (gone (0 + i))) (f (0 + i, x (0 + i))) 0) (λ (i : ℕ). cond (gone i) 0 (f (i, x i))) n
      (λ i l. ap (λ (z : ℕ). cond (not (gone z)) (f (z, x z)) 0) (z i) ∙ turn (gone i) (f (i, x i)))
    where
      turn : (b : Bool) (v : ℕ) → cond (not b) v 0 ≡ cond b 0 v
      turn true v = refl
      turn false v = refl

  -- and so is one over the candidates sorted
  sorted-rows : (f : ℕ × ℕ → ℕ) → total f (sort (candidates x gone n)) ≡ sum_to (λ (i : ℕ). left_of gone (λ (i : ℕ). f (i, x i)) i) n
  sorted-rows f = total_sort f (candidates x gone n) ∙ over-rows f

  -- those closer than k
  nearer-rows : (k : ℕ) → total (nearer k) (sort (candidates x gone n)) ≡ nearer_than k
  nearer-rows k =
      sorted-rows (nearer k)
      ∙ sum_below-same (λ (i : ℕ). cond (gone i) 0 (min 1 (k - x i))) (λ (i : ℕ). min (live_of gone i) (k - x i)) n (λ i l. at (gone i) (k - x i))
    where
      at : (b : Bool) (v : ℕ) → cond b 0 (min 1 v) ≡ min (cond b 0 1) v
      at true v = omega arith
      at false v = refl

  -- there are as many candidates as rows remain
  pub remain : length (candidates x gone n) ≡ total (λ (a : ℕ × ℕ). 1) (sort (candidates x gone n))
  remain = length_total (candidates x gone n) ∙ sym (total_sort (λ (a : ℕ × ℕ). 1) (candidates x gone n))

  -- no more are closer than remain
  nearer-most : (k : ℕ) → nearer_than k ≤ length (candidates x gone n)
  nearer-most k =
      omega (
        arith,
        sum_below_le (λ (s : ℕ). min (live_of gone s) (k - x s)) (live_of gone) n (λ s l. omega arith),
        remain,
        sorted-rows (λ (a : ℕ × ℕ). 1),
      )

  -- no fewer are closer than a greater distance
  nearer-up : (k k' : ℕ) → k ≤ k' → nearer_than k ≤ nearer_than k'
  nearer-up k k' h = closer_le n (live_of gone) (live_of gone) x k k' (λ r. omega arith) h

  -- FEWER THAN w OF THEM ARE CLOSER THAN D, the distance of the w-th
  few-rowsCloser : (w : ℕ) → 1 ≤ w → w ≤ length (candidates x gone n) → nearer_than (last_distance (take w (sort (candidates x gone n)))) < w
  few-rowsCloser zero l h = absurd (omega arith)
  few-rowsCloser (suc w) l h =
      let D : ℕ = last_distance (take (suc w) (sort (candidates x gone n))) in
      subst (λ (z : ℕ). z < suc w) (nearer-rows D)
      (few_sorted (sort (candidates x gone n)) w (sort_sorted (candidates x gone n)) (omega (arith, remain)))

  -- AND w ARE AT MOST AT D
  many-within : (w : ℕ) → 1 ≤ w → w ≤ length (candidates x gone n) → w ≤ nearer_than (last_distance (take w (sort (candidates x gone n))) + 1)
  many-within zero l h = absurd (omega arith)
  many-within (suc w) l h =
      let D : ℕ = last_distance (take (suc w) (sort (candidates x gone n))) in
      subst (λ (z : ℕ). suc w ≤ z) (nearer-rows (D + 1))
      (many_sorted (sort (candidates x gone n)) w (sort_sorted (candidates x gone n)) (omega (arith, remain)))

  module _ (wanted : ℕ) where
    -- the distance of the last answer
    abbrev pub last_at : ℕ
    last_at = last_distance (take wanted (sort (candidates x gone n)))

    -- a bound passes where more are wanted than remain, or it is at most that distance
    pub passes-is : (b : ℕ) → passes x gone n wanted b ≡ (ltb (length (candidates x gone n)) wanted || leb b last_at)
    unfolding passes answers
    passes-is b = refl

    -- A BOUND PASSES EXACTLY IF FEWER THAN w OF THE ROWS THAT REMAIN ARE CLOSER
    pub due-passes : 1 ≤ wanted → (b : ℕ) → (nearer_than b < wanted) ↔ (passes x gone n wanted b ≡ true)
    due-passes some b =
        subst (λ (p : Bool). (nearer_than b < wanted) ↔ (p ≡ true)) (sym (passes-is b)) (go (ltb (length (candidates x gone n)) wanted) refl)
      where
        go : (a : Bool) → ltb (length (candidates x gone n)) wanted ≡ a → (nearer_than b < wanted) ↔ ((a || leb b last_at) ≡ true)
        go true e = (λ h. refl, λ h. omega (arith, ltb-true (length (candidates x gone n)) wanted e, nearer-most b))
        go false e = (λ h. to h (leb b last_at) refl, λ h. from (leb-true b last_at h))
          where
            enough : wanted ≤ length (candidates x gone n)
            enough = ltb-false (length (candidates x gone n)) wanted e

            to : nearer_than b < wanted → (c : Bool) → leb b last_at ≡ c → c ≡ true
            to h true q = refl
            to h false q = absurd (omega (arith, many-within wanted some enough, nearer-up (last_at + 1) b (omega (arith, leb-false b last_at q))))

            from : b ≤ last_at → nearer_than b < wanted
            from h = omega (arith, few-rowsCloser wanted some enough, nearer-up b last_at h)

  -- a bound that some row is no closer than passes where as many are wanted as there are rows
  pub all_pass : (b r : ℕ) → r < n → b ≤ x r → passes x gone n n b ≡ true
  all_pass b r h l =
      (due-passes n (omega arith) b).0
      (omega (
        arith,
        sum_below_le (λ (s : ℕ). min (live_of gone s) (b - x s) + is r s) (λ (s : ℕ). 1) n (λ s q. each s (ℕ_discrete s r)),
        sum_add (λ (s : ℕ). min (live_of gone s) (b - x s)) (is r) n,
        sum_part (is r) n r h,
        is_self r,
        sum_ones n,
      ))
    where
      each : (s : ℕ) → Dec (s ≡ r) → min (live_of gone s) (b - x s) + is r s ≤ 1
      each s (yes e) = omega (arith, ap x e)
      each s (no e) = omega (arith, live_bit gone s)
