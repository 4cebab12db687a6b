-- A search on another table, that agrees with this one in every row that is due here, is a search on this one. Assumes nothing.
use Prim.Native.Nat.{◌-◌, ◌<◌, min, ℕ}
use Rattle.best_first.proofs.Keeps.{search-keeps, taken-due}
use Rattle.best_first.proofs.Measured.{measured-exactly-due}
use Rattle.best_first.specs.Search.{Due, Ended, Homes, Kept, Lawful, SearchReach, SearchSpace, Step, both, found, start, step}
use Rattle.laws.proofs.Bags.{total-none}
use Rattle.laws.proofs.Sums.{sum_below-same}
use Rattle.laws.specs.Bags.{SameBag}
use mathlib.Core.List.{List, ◌++◌}
use mathlib.Core.Logic.{◌↔◌}
use mathlib.Core.Path.{◌≡◌, ap, subst}
use native.Mathlib.Decide.{ℕ_discrete}
use native.Mathlib.Omega.{arith}

-- d' agrees with d where a row is due; what an item opens depends on the rows that it measures; and these are rows
module _ {Item : Type 0} (S : SearchSpace Item) (H : Homes Item) (w : ℕ) (d : ℕ → ℕ) (L : Lawful S H d) (d' : ℕ → ℕ)
    (agree : (r : ℕ) → r < S.rows → Due S H w d r → d' r ≡ d r)
    (local : (i : Item) → H.bad i ≡ 0 → ((r : ℕ) → 0 < S.measures i r → d' r ≡ d r) → S.opens d' i ≡ S.opens d i)
    (known : (i : Item) (r : ℕ) → H.bad i ≡ 0 → 0 < S.measures i r → r < S.rows) where
  -- no fewer and no more measured rows are closer on the other table
  found-same : (q : List Item) (m : ℕ → ℕ) (k : ℕ) → Kept S H w d q m → found S d' m k ≡ found S d m k
  found-same q m k v =
      sum_below-same (λ (r : ℕ). min (both m S.live r) (k - d' r)) (λ (r : ℕ). min (both m S.live r) (k - d r)) S.rows
      (λ r h. at r h (ℕ_discrete (m r) 0))
    where
      at : (r : ℕ) → r < S.rows → Dec (m r ≡ 0) → min (both m S.live r) (k - d' r) ≡ min (both m S.live r) (k - d r)
      at r h (yes z) = omega arith
      at r h (no z) = ap (λ (x : ℕ). min (both m S.live r) (k - x)) (agree r h (v.due r h (omega arith)))

  -- a step on the other table is one on this
  step_back : (q : List Item) (m : ℕ → ℕ) (q' : List Item) (m' : ℕ → ℕ) → Kept S H w d q m → Step S w d' q m q' m' → Step S w d q m q' m'
  step_back q m q' m' v t = record {
    item = i;
    others = t.others;
    taken = t.taken;
    least = t.least;
    due = due;
    queued = subst (λ (x : List Item). SameBag q' (x ++ t.others)) same t.queued;
    marked = t.marked;
  }
    where
      i : Item
      i = t.item

      good : H.bad i ≡ 0
      good = omega (arith, t.taken H.bad, v.sound)

      due : found S d m (S.bound i) < w
      due = omega (arith, found-same q m (S.bound i) v, t.due)

      same : S.opens d' i ≡ S.opens d i
      same =
          local i good
          (λ r p. agree r (known i r good p)
          (taken-due S H w d L q m i v good (omega (arith, t.taken (λ (j : Item). S.bound i - S.bound j), t.least)) due r p))

  -- A SEARCH ON THE OTHER TABLE IS ONE ON THIS, STEP BY STEP
  pub search-back : (q₀ : List Item) (m₀ : ℕ → ℕ) (q : List Item) (m : ℕ → ℕ) → Kept S H w d q₀ m₀ → SearchReach S w d' q₀ m₀ q m → SearchReach S w d q₀ m₀ q m
  search-back q₀ m₀ q m v start = start
  search-back q₀ m₀ q m v (step {q = p} {m = l} r t) =
      let b : SearchReach S w d q₀ m₀ p l = search-back q₀ m₀ p l v r in
      step b (step_back p l q m (search-keeps S H w d L q₀ m₀ p l v b) t)

  -- and so is its end
  pub ended-back : (q : List Item) (m : ℕ → ℕ) → Kept S H w d q m → Ended S w d' q m → Ended S w d q m
  ended-back q m v e =
      total-none (λ (j : Item). w - found S d m (S.bound j)) (λ (j : Item). w - found S d' m (S.bound j)) q
      (λ j z p. omega (arith, found-same q m (S.bound j) v)) e

  -- SO IT MEASURES THE ROWS THAT ARE DUE ON THIS ONE
  pub measured-on-both : (q₀ : List Item) (m₀ : ℕ → ℕ) (q : List Item) (m : ℕ → ℕ) → Kept S H w d q₀ m₀ → SearchReach S w d' q₀ m₀ q m → Ended S w d' q m
      → (r : ℕ) → r < S.rows → (0 < m r) ↔ Due S H w d r
  measured-on-both q₀ m₀ q m v r e =
      let k : Kept S H w d q m = search-keeps S H w d L q₀ m₀ q m v (search-back q₀ m₀ q m v r) in
      measured-exactly-due S H w d L q m k (ended-back q m k e)
