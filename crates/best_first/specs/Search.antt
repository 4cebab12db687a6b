-- Best-first search over any space of items, each with a bound: "Which rows are measured" without the tree. Rows are numbers, and a set of
-- rows is a function that is 1 at its members and 0 elsewhere. What waits is a bag. Distances are a parameter: one search can be told on two tables.
-- A working notion, on which no promise rests. Assumes nothing.
use Rattle.std.specs.Prelude.{◌+◌, ◌-◌, ◌<◌, ◌≤◌, min, ℕ, List, ◌++◌, ◌∷◌, ◌≡◌}
use Rattle.laws.specs.Bags.{SameBag, total}
use Rattle.laws.specs.Upto.{sum_to}

-- the rows in both sets
abbrev pub both : (ℕ → ℕ) → (ℕ → ℕ) → ℕ → ℕ
both a b r = min (a r) (b r)

-- how many rows below n are in the set and closer than k
abbrev pub rows_closer : ℕ → (ℕ → ℕ) → (ℕ → ℕ) → ℕ → ℕ
rows_closer n set d k = sum_to (λ (r : ℕ). min (set r) (k - d r)) n

-- what is searched
pub record SearchSpace (Item : Type 0) : Type 0 where
  -- an item's bound
  pub bound : Item → ℕ
  -- the rows that an item measures when it is taken
  pub measures : Item → ℕ → ℕ
  -- the items that then wait in its place, the rows being at d
  pub opens : (ℕ → ℕ) → Item → List Item
  -- how many rows there are
  pub rows : ℕ
  -- the rows that count: not those withdrawn
  pub live : ℕ → ℕ

-- how many live rows, of those in m, are closer than k
abbrev pub found : {Item : Type 0} → SearchSpace Item → (ℕ → ℕ) → (ℕ → ℕ) → ℕ → ℕ
found S d m k = rows_closer S.rows (both m S.live) d k

module _ {Item : Type 0} (S : SearchSpace Item) (w : ℕ) (d : ℕ → ℕ) where
  -- one step: from the items q that wait, with the rows m measured, to q' and m'
  pub record Step (q : List Item) (m : ℕ → ℕ) (q' : List Item) (m' : ℕ → ℕ) : Type 0 where
    pub item : Item
    pub others : List Item
    -- an item is taken, and none of the others has a lower bound
    pub taken : SameBag q (item ∷ others)
    pub least : total (λ (j : Item). S.bound item - S.bound j) others ≡ 0
    -- fewer than w live rows, of those measured so far, are closer than its bound
    pub due : found S d m (S.bound item) < w
    -- what it opens waits with the others, and what it measures is measured
    pub queued : SameBag q' (S.opens d item ++ others)
    pub marked : (r : ℕ) → m' r ≡ m r + S.measures item r

  -- what a search that begins with q₀ and m₀ can come to
  pub data SearchReach (q₀ : List Item) (m₀ : ℕ → ℕ) : List Item → (ℕ → ℕ) → Type 0 where
    start : SearchReach q₀ m₀ q₀ m₀
    step : {q : List Item} {m : ℕ → ℕ} {q' : List Item} {m' : ℕ → ℕ} → SearchReach q₀ m₀ q m → Step q m q' m' → SearchReach q₀ m₀ q' m'

  -- a search may end: for each item that waits, w live measured rows are closer than its bound
  abbrev pub Ended : List Item → (ℕ → ℕ) → Type 0
  Ended q m = total (λ (j : Item). w - found S d m (S.bound j)) q ≡ 0

-- where the rows of a space have their homes
pub record Homes (Item : Type 0) : Type 0 where
  -- the rows still to be measured under an item, those that it measures among them
  pub waits : Item → ℕ → ℕ
  -- not 0 for an item that is no part of the space
  pub bad : Item → ℕ
  -- a row's home bound
  pub home : ℕ → ℕ

module _ {Item : Type 0} (S : SearchSpace Item) (H : Homes Item) where
  -- what a space must meet, with its rows at d
  pub record Lawful (d : ℕ → ℕ) : Type 0 where
    pub bit : (r : ℕ) → S.live r ≤ 1
    -- a row that waits under an item is measured by it, or waits under one item that it opens
    pub split : (i : Item) (r : ℕ) → H.bad i ≡ 0 → H.waits i r ≡ S.measures i r + total (λ (k : Item). H.waits k r) (S.opens d i)
    pub kin : (i : Item) → H.bad i ≡ 0 → total H.bad (S.opens d i) ≡ 0
    -- a row's home is where it is measured, and no row under an item has a lower home bound
    pub there : (i : Item) (r : ℕ) → H.bad i ≡ 0 → 0 < S.measures i r → H.home r ≡ S.bound i
    pub low : (i : Item) (r : ℕ) → H.bad i ≡ 0 → 0 < H.waits i r → S.bound i ≤ H.home r
    -- no row is closer than its home bound
    pub under : (r : ℕ) → r < S.rows → H.home r ≤ d r

  -- row r is due: fewer than w live rows are closer than its home bound
  abbrev pub Due : ℕ → (ℕ → ℕ) → ℕ → Type 0
  Due w d r = rows_closer S.rows S.live d (H.home r) < w

  -- what every search keeps
  pub record Kept (w : ℕ) (d : ℕ → ℕ) (q : List Item) (m : ℕ → ℕ) : Type 0 where
    -- each row is measured or waits under one item, once
    pub once : (r : ℕ) → r < S.rows → m r + total (λ (j : Item). H.waits j r) q ≡ 1
    pub sound : total H.bad q ≡ 0
    pub due : (r : ℕ) → r < S.rows → 0 < m r → Due w d r
