-- What a search has measured at its end, and that its answers are right. Assumes nothing.
use Prim.Native.Nat.{◌+◌, ◌-◌, ◌<◌, ◌≤◌, min, ℕ}
use Rattle.best_first.proofs.Keeps.{closer_le}
use Rattle.best_first.specs.Search.{Due, Ended, Homes, Kept, Lawful, SearchSpace, both, found, rows_closer}
use Rattle.laws.proofs.Bags.{total-neither, total-none}
use Rattle.laws.proofs.Sums.{sum_below_le, sum_below-same}
use Rattle.laws.specs.Bags.{total}
use Rattle.laws.specs.Upto.{sum_to}
use mathlib.Core.List.{List}
use mathlib.Core.Logic.{◌↔◌}
use mathlib.Core.Path.{◌≡◌}
use native.Mathlib.Decide.{dec_lt, ℕ_discrete}
use native.Mathlib.Omega.{arith}

module _ {Item : Type 0} (S : SearchSpace Item) (H : Homes Item) (w : ℕ) (d : ℕ → ℕ) (L : Lawful S H d) (q : List Item) (m : ℕ → ℕ) (v : Kept S H w d q m)
    (e : Ended S w d q m) where
  -- no more measured rows are closer than rows
  found-le : (o : ℕ → ℕ) (k : ℕ) → found S o m k ≤ rows_closer S.rows S.live o k
  found-le o k = closer_le S.rows (both m S.live) S.live o k k (λ s. omega arith) (omega arith)

  -- a row that is not measured has w live measured rows closer than its home bound
  unmeasured-far : (r : ℕ) → r < S.rows → m r ≡ 0 → w ≤ found S d m (H.home r)
  unmeasured-far r h z = at (dec_lt (found S d m (H.home r)) w)
    where
      up : (k k' : ℕ) → k ≤ k' → found S d m k ≤ found S d m k'
      up k k' = closer_le S.rows (both m S.live) (both m S.live) d k k' (λ s. omega arith)

      at : Dec (found S d m (H.home r) < w) → w ≤ found S d m (H.home r)
      at (yes c) =
          let none : total (λ (j : Item). H.waits j r) q ≡ 0 =
          total-none (λ (j : Item). H.waits j r) (λ (j : Item). (w - found S d m (S.bound j)) + H.bad j) q
          (λ j x p. omega (arith, up (S.bound j) (H.home r) (L.low j r (omega arith) p)))
          (total-neither (λ (j : Item). w - found S d m (S.bound j)) H.bad q e v.sound) in
          absurd (omega (arith, v.once r h))
      at (no c) = omega arith

  -- THE MEASURED ROWS ARE EXACTLY THOSE THAT ARE DUE
  pub measured-exactly-due : (r : ℕ) → r < S.rows → (0 < m r) ↔ Due S H w d r
  measured-exactly-due r h = (v.due r h, λ c. at c (ℕ_discrete (m r) 0))
    where
      at : Due S H w d r → Dec (m r ≡ 0) → 0 < m r
      at c (yes z) = absurd (omega (arith, unmeasured-far r h z, found-le d (H.home r)))
      at c (no z) = omega arith

  -- THAT IS, THOSE WHOSE HOME BOUND IS AT MOST D: D is the w-th least distance, so fewer than w live rows are closer, and w are at most at D
  pub measured-up-to : (D : ℕ) → rows_closer S.rows S.live d D < w → w ≤ rows_closer S.rows S.live d (D + 1) → (r : ℕ) → r < S.rows
      → (0 < m r) ↔ (H.home r ≤ D)
  measured-up-to D a b r h =
      (λ p. to p (dec_lt D (H.home r)), λ c. (measured-exactly-due r h).1 (omega (arith, up (H.home r) D c)))
    where
      up : (k k' : ℕ) → k ≤ k' → rows_closer S.rows S.live d k ≤ rows_closer S.rows S.live d k'
      up k k' = closer_le S.rows S.live S.live d k k' (λ s. omega arith)

      to : 0 < m r → Dec (D < H.home r) → H.home r ≤ D
      to p (yes c) = absurd (omega (arith, up (D + 1) (H.home r) (omega arith), (measured-exactly-due r h).0 p))
      to p (no c) = omega arith

  -- ALL ROWS ARE MEASURED IF FEWER THAN w THAT ARE LIVE ARE
  pub all-measured-if-few : sum_to (both m S.live) S.rows < w → (r : ℕ) → r < S.rows → 0 < m r
  all-measured-if-few c r h = at (ℕ_discrete (m r) 0)
    where
      most : found S d m (H.home r) ≤ sum_to (both m S.live) S.rows
      most = sum_below_le (λ (s : ℕ). min (both m S.live s) (H.home r - d s)) (both m S.live) S.rows (λ s x. omega arith)

      at : Dec (m r ≡ 0) → 0 < m r
      at (yes z) = absurd (omega (arith, unmeasured-far r h z, most))
      at (no z) = omega arith

  -- ---- the answers. o is the order they are given in: by distance, and rows at one distance somehow; a row's place is how many come before it.
  module _ (o : ℕ → ℕ) (fine : (s r : ℕ) → d s < d r → o s < o r) (coarse : (s r : ℕ) → o s < o r → d s ≤ d r) where
    -- where a row no farther than r is not measured, w measured rows come before r
    far_place : (s r : ℕ) → s < S.rows → m s ≡ 0 → d s ≤ d r → w ≤ found S o m (o r)
    far_place s r h z c = omega (arith, unmeasured-far s h z, more)
      where
        more : found S d m (H.home s) ≤ found S o m (o r)
        more =
            sum_below_le (λ (t : ℕ). min (both m S.live t) (H.home s - d t)) (λ (t : ℕ). min (both m S.live t) (o r - o t)) S.rows
            (λ t x. at t (dec_lt (d t) (H.home s)))
          where
            at : (t : ℕ) → Dec (d t < H.home s) → min (both m S.live t) (H.home s - d t) ≤ min (both m S.live t) (o r - o t)
            at t (yes y) = omega (arith, fine t r (omega (arith, L.under s h)), L.bit t)
            at t (no y) = omega arith

    -- A ROW WITH A PLACE BELOW w AMONG THE LIVE ROWS IS MEASURED
    pub answers-measured : (r : ℕ) → r < S.rows → rows_closer S.rows S.live o (o r) < w → 0 < m r
    answers-measured r h c = at (ℕ_discrete (m r) 0)
      where
        at : Dec (m r ≡ 0) → 0 < m r
        at (yes z) = absurd (omega (arith, far_place r r h z (omega arith), found-le o (o r)))
        at (no z) = omega arith

    -- AND A PLACE BELOW w AMONG THOSE MEASURED IS ITS PLACE AMONG ALL THAT ARE LIVE
    pub places-agree : (r : ℕ) → found S o m (o r) < w → rows_closer S.rows S.live o (o r) ≡ found S o m (o r)
    places-agree r c =
        sum_below-same (λ (s : ℕ). min (S.live s) (o r - o s)) (λ (s : ℕ). min (both m S.live s) (o r - o s)) S.rows
        (λ s x. at s x (ℕ_discrete (m s) 0) (dec_lt (o s) (o r)))
      where
        at : (s : ℕ) → s < S.rows → Dec (m s ≡ 0) → Dec (o s < o r) → min (S.live s) (o r - o s) ≡ min (both m S.live s) (o r - o s)
        at s x (yes z) (yes y) = absurd (omega (arith, far_place s r x z (coarse s r y)))
        at s x (yes z) (no y) = omega arith
        at s x (no z) y = omega (arith, L.bit s)
