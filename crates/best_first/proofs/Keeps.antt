-- A search keeps the invariant. Assumes nothing.
use Prim.Native.Nat.{◌+◌, ◌-◌, ◌<◌, ◌≤◌, min, ℕ}
use Rattle.best_first.specs.Search.{Due, Homes, Kept, Lawful, SearchReach, SearchSpace, Step, both, found, rows_closer, start, step}
use Rattle.laws.proofs.Bags.{total-append, total-neither, total-none}
use Rattle.laws.proofs.Sums.{sum_below_le}
use Rattle.laws.specs.Bags.{total}
use mathlib.Core.List.{List}
use mathlib.Core.Path.{◌≡◌, ap}
use native.Mathlib.Decide.{dec_lt}
use native.Mathlib.Omega.{arith}

-- ---- how many rows are closer
-- no fewer of a larger set, and up to a greater distance
pub closer_le : (n : ℕ) (a b d : ℕ → ℕ) (k k' : ℕ) → ((r : ℕ) → a r ≤ b r) → k ≤ k' → rows_closer n a d k ≤ rows_closer n b d k'
closer_le n a b d k k' h l = sum_below_le (λ (r : ℕ). min (a r) (k - d r)) (λ (r : ℕ). min (b r) (k' - d r)) n (λ r x. omega (arith, h r))

module _ {Item : Type 0} (S : SearchSpace Item) (H : Homes Item) (w : ℕ) (d : ℕ → ℕ) (L : Lawful S H d) where
  -- where nothing waits with a bound below k, every live row closer than k is measured
  all_found : (q : List Item) (m : ℕ → ℕ) (k : ℕ) → Kept S H w d q m → total (λ (j : Item). k - S.bound j) q ≡ 0
      → rows_closer S.rows S.live d k ≤ found S d m k
  all_found q m k v e =
      sum_below_le (λ (r : ℕ). min (S.live r) (k - d r)) (λ (r : ℕ). min (both m S.live r) (k - d r)) S.rows
      (λ r h. at r h (dec_lt (d r) k))
    where
      at : (r : ℕ) → r < S.rows → Dec (d r < k) → min (S.live r) (k - d r) ≤ min (both m S.live r) (k - d r)
      at r h (yes c) =
          let none : total (λ (j : Item). H.waits j r) q ≡ 0 =
          total-none (λ (j : Item). H.waits j r) (λ (j : Item). (k - S.bound j) + H.bad j) q
          (λ j z p. omega (arith, L.low j r (omega arith) p, L.under r h))
          (total-neither (λ (j : Item). k - S.bound j) H.bad q e v.sound) in
          omega (arith, v.once r h, L.bit r)
      at r h (no c) = omega arith

  -- what the item that is taken measures is due
  pub taken-due : (q : List Item) (m : ℕ → ℕ) (i : Item) → Kept S H w d q m → H.bad i ≡ 0 → total (λ (j : Item). S.bound i - S.bound j) q ≡ 0
      → found S d m (S.bound i) < w
      → (r : ℕ) → 0 < S.measures i r → Due S H w d r
  taken-due q m i v good least c r p = omega (arith, ap (rows_closer S.rows S.live d) (L.there i r good p), all_found q m (S.bound i) v least)

  -- A STEP KEEPS IT
  pub step_keeps : (q : List Item) (m : ℕ → ℕ) (q' : List Item) (m' : ℕ → ℕ) → Kept S H w d q m → Step S w d q m q' m' → Kept S H w d q' m'
  step_keeps q m q' m' v t = record { once = once; sound = sound; due = λ r h p. due r h p (dec_lt 0 (S.measures i r)) }
    where
      i : Item
      i = t.item

      good : H.bad i ≡ 0
      good = omega (arith, t.taken H.bad, v.sound)

      once : (r : ℕ) → r < S.rows → m' r + total (λ (j : Item). H.waits j r) q' ≡ 1
      once r h =
          omega (
            arith,
            v.once r h,
            t.taken (λ (j : Item). H.waits j r),
            t.queued (λ (j : Item). H.waits j r),
            total-append (λ (j : Item). H.waits j r) (S.opens d i) t.others,
            L.split i r good,
            t.marked r,
          )

      sound : total H.bad q' ≡ 0
      sound = omega (arith, v.sound, t.taken H.bad, t.queued H.bad, total-append H.bad (S.opens d i) t.others, L.kin i good)

      least : total (λ (j : Item). S.bound i - S.bound j) q ≡ 0
      least = omega (arith, t.taken (λ (j : Item). S.bound i - S.bound j), t.least)

      due : (r : ℕ) → r < S.rows → 0 < m' r → Dec (0 < S.measures i r) → Due S H w d r
      due r h p (yes c) = taken-due q m i v good least t.due r c
      due r h p (no c) = v.due r h (omega (arith, t.marked r))

  -- SO DOES A SEARCH
  pub search-keeps : (q₀ : List Item) (m₀ : ℕ → ℕ) (q : List Item) (m : ℕ → ℕ) → Kept S H w d q₀ m₀ → SearchReach S w d q₀ m₀ q m → Kept S H w d q m
  search-keeps q₀ m₀ q m v start = v
  search-keeps q₀ m₀ q m v (step {q = p} {m = l} r t) = step_keeps p l q m (search-keeps q₀ m₀ p l v r) t
