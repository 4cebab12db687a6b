-- The values that a question is about: the items of a list, each times its column's factor. Assumes nothing.
use Rattle.std.specs.Prelude.{◌*◌, ◌+◌, ℕ, eqb, ltb, drop, get_or, Bool, ◌||◌, cond, List, ◌++◌, ◌≡◌}
use Rattle.asking.specs.Pieces.{has_piece, piece_of}
use Rattle.asking.specs.Worth.{worth}
use Rattle.column_products.specs.Chosen.{first_to, items_of, most}

-- ---- one item
-- the number that item i of the list says; 10,000,000 where it says none
unfoldable pub item_says : List ℕ → ℕ → ℕ
item_says list i = worth (piece_of 44 list i)

-- a number, its factor, or the one times the other is more than a table holds
unfoldable pub beyond : ℕ → ℕ → Bool
beyond value factor = ltb 65_535 value || (ltb 65_535 factor || ltb 65_535 (value * factor))

-- a number times its factor; 65,536 where that is more than a table holds
unfoldable pub times_of : ℕ → ℕ → ℕ
times_of value factor = cond (beyond value factor) 65_536 (value * factor)

-- item i times its factor
unfoldable pub value_of : List ℕ → List ℕ → ℕ → ℕ
value_of list factors i = times_of (item_says list i) (get_or factors i 0)

-- what is wrong with item i, where the set o of the columns are circles: 25 it is missing, 24 it is more than a table holds, 28 more than a circle has
unfoldable pub item_trouble_lem : List ℕ → ℕ → List ℕ → ℕ → ℕ
item_trouble_lem list o factors i =
    cond (has_piece 44 list i) (cond (ltb 65_535 (value_of list factors i)) 24 (cond (ltb (most o i) (value_of list factors i)) 28 0)) 25

-- ---- all items
-- the first of k items with which something is wrong, or k
unfoldable pub first_wrong : List ℕ → ℕ → List ℕ → ℕ → ℕ
first_wrong list o factors k = first_to (λ i. ltb 0 (item_trouble_lem list o factors i)) k

-- for every input: the list, the set of circles, the factors of k columns, the queries before and after, what is wrong, a number that says more of it, and
-- how many queries were put
pub record PutsValues (list : List ℕ) (o : ℕ) (factors : List ℕ) (k : ℕ) (queries queries' : List ℕ) (wrong more count : ℕ) : Type 0 where
  -- what is wrong with the first such item, or 25 where there is one more than columns; else 0
  pub said : wrong ≡ cond (ltb (first_wrong list o factors k) k) (item_trouble_lem list o factors (first_wrong list o factors k))
      (cond (has_piece 44 list (first_wrong list o factors k)) 25 0)
  -- which item that is, from 1 on; how many there are, where it is missing
  pub which : more ≡ cond (has_piece 44 list (first_wrong list o factors k)) (first_wrong list o factors k + 1)
      (cond (ltb (first_wrong list o factors k) k) (first_wrong list o factors k) 0)
  -- one query, if nothing is wrong
  pub one : count ≡ cond (eqb wrong 0) 1 0
  -- the items before it stand at the front, each times its factor, and behind them all is as it was
  pub content : queries' ≡ items_of (value_of list factors) (first_wrong list o factors k) ++ drop (first_wrong list o factors k) queries
