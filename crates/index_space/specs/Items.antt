-- The search space of an index: what waits, what taking it measures, and what then waits in its place. 01, Which rows are measured.
-- A working notion, on which no promise rests. Assumes nothing.
use Rattle.std.specs.Prelude.{◌+◌, ◌-◌, max, min, suc, zero, ℕ, Bool, cond, List, []}
use Rattle.best_first.specs.Search.{SearchSpace}
use Rattle.laws.specs.Bags.{is, upto}
use Rattle.laws.specs.Lists.{gap}
use Rattle.laws.specs.Upto.{sum_to}
use Rattle.tree.specs.Grove.{reach#}
use Rattle.tree.specs.Homes.{child_bound_lem}
use Rattle.words.specs.Words.{child#, count#, dist#, first#, m#, n#, row#, start#}

-- What waits: node k under the bound b, with its first at x; or position p of an opened leaf under its own bound b.
pub data IndexItem : Type 0 where
  node : (k b x : ℕ) → IndexItem
  place : (p b : ℕ) → IndexItem

-- an item's bound
abbrev pub bound_of : IndexItem → ℕ
bound_of (node k b x) = b
bound_of (place p b) = b

-- the greatest number of 32 bits: no bound is above it
abbrev pub greatest_word : ℕ
greatest_word = 4_294_967_295

-- the least of f 0, f 1, .. f c
abbrev pub least_to : (ℕ → ℕ) → ℕ → ℕ
least_to f zero = f 0
least_to f (suc c) = min (least_to f c) (f (suc c))

-- of the rows that g counts, those that remain
abbrev pub left_of : (ℕ → Bool) → (ℕ → ℕ) → ℕ → ℕ
left_of gone g r = cond (gone r) 0 (g r)

-- 1 for a row that remains, 0 for one that is withdrawn
abbrev pub live_of : (ℕ → Bool) → ℕ → ℕ
live_of gone r = cond (gone r) 0 1

module _ (w : List ℕ) where
  -- ---- an inner node's children, from number q on, where its first is at x and the other rows are at d
  -- the distance of child j's first: the first child shares its parent's
  abbrev pub centre_at : (ℕ → ℕ) → ℕ → ℕ → ℕ → ℕ
  centre_at d q x zero = x
  centre_at d q x (suc j) = d (first# w (q + suc j))

  -- y, the least distance over its centres
  abbrev pub nearest_at : (ℕ → ℕ) → ℕ → ℕ → ℕ
  nearest_at d q x = least_to (centre_at d q x) (m# w - 1)

  -- child j waits with its first's distance, under the bound that follows from b, its parent's
  abbrev pub child_of : (ℕ → ℕ) → ℕ → ℕ → ℕ → ℕ → IndexItem
  child_of d q b x j = node (q + j) (child_bound_lem b (nearest_at d q x) (centre_at d q x j) (reach# w (q + j))) (centre_at d q x j)

  -- ---- a leaf's rows but its first, where the leaf has the bound b and its first is at x
  -- the bound of the row at position p
  abbrev pub place_bound : ℕ → ℕ → ℕ → ℕ
  place_bound b x p = max b (gap x (dist# w p))

  -- of leaf k, the row after its first by i waits under its own bound
  abbrev pub place_of : ℕ → ℕ → ℕ → ℕ → IndexItem
  place_of k b x i = place (start# w k + suc i) (place_bound b x (start# w k + suc i))

  -- ---- taking an item
  -- a leaf measures nothing; an inner node, whose first child's number is q + 1, every centre but its own first
  abbrev pub measures_at : ℕ → ℕ → ℕ
  measures_at zero r = 0
  measures_at (suc q) r = sum_to (λ (j : ℕ). is r (first# w (suc q + suc j))) (m# w - 1)

  -- how often an item measures row r: a position measures its row
  abbrev pub measured_by : IndexItem → ℕ → ℕ
  measured_by (node k b x) r = measures_at (child# w k) r
  measured_by (place p b) r = is r (row# w p)

  -- a leaf opens to its rows but the first; an inner node, whose first child's number is q + 1, to its children
  abbrev pub opens_at : (ℕ → ℕ) → ℕ → ℕ → ℕ → ℕ → List IndexItem
  opens_at d zero k b x = upto (place_of k b x) (count# w k - 1)
  opens_at d (suc q) k b x = upto (child_of d (suc q) b x) (m# w)

  -- what waits in an item's place, the rows being at d: nothing in a position's
  abbrev pub opened_by : (ℕ → ℕ) → IndexItem → List IndexItem
  opened_by d (node k b x) = opens_at d (child# w k) k b x
  opened_by d (place p b) = []

  -- the space, where the rows of `gone` are withdrawn: they stand where they stood, and do not count
  abbrev pub space_of : (ℕ → Bool) → SearchSpace IndexItem
  space_of gone = record { bound = bound_of; measures = measured_by; opens = opened_by; rows = n# w; live = live_of gone }

  -- how often row r is still to be measured under node k: its members but the first
  abbrev pub waits_node : ℕ → ℕ → ℕ
  waits_node k r = sum_to (λ (i : ℕ). is r (row# w (start# w k + suc i))) (count# w k - 1)

  -- the same under an item: under a position, its row
  abbrev pub waits_of : IndexItem → ℕ → ℕ
  waits_of (node k b x) r = waits_node k r
  waits_of (place p b) r = is r (row# w p)

  -- how many positions an item stands for
  abbrev pub weight : IndexItem → ℕ
  weight (node k b x) = count# w k
  weight (place p b) = 1

  -- the search begins with the root, whose bound is 0
  abbrev pub root_of : (ℕ → ℕ) → IndexItem
  root_of x = node 0 0 (x (first# w 0))
