-- Which of the chosen columns are circles: those that the items of a list say, each by its name or by its number. Assumes nothing.
use Rattle.std.specs.Prelude.{suc, ℕ, eqb, ltb, get_or, Bool, ◌&&◌, cond, not, List, ◌≡◌}
use Rattle.asking.specs.Pieces.{begin_of, end_at, has_piece, piece_of}
use Rattle.column_products.specs.Chosen.{first_to}
use Rattle.laws.specs.Lists.{any, range}
use Rattle.measure.specs.Distance.{is_circle_lem}
use Rattle.column_names.specs.Names.{column_said_lem}

-- a list has at most this many items
abbrev pub most_items : ℕ
most_items = 16

-- the names of the text and its number of columns; the list, whose items commas part; the k chosen columns, by their numbers from 0
module _ (names : List ℕ) (c : ℕ) (list : List ℕ) where
  -- the column that item i says, from 1 on: 0 where there is none, 17 where two have the name
  unfoldable pub item_says : ℕ → ℕ
  item_says i = column_said_lem names (piece_of 44 list i) c

  -- item i is there, and says column j, from 0 on
  unfoldable pub says : ℕ → ℕ → Bool
  says j i = has_piece 44 list i && eqb (item_says i) (suc j)

  -- one of the items says column j
  unfoldable pub is_said_lem : ℕ → Bool
  is_said_lem j = any (says j) (range 0 most_items)

-- column j + 1 is one of the k chosen
unfoldable pub counts : List ℕ → ℕ → ℕ → Bool
counts chosen k column = any (λ j. eqb column (suc (get_or chosen j 0))) (range 0 k)

-- what is wrong with a column that shall be a circle: 11 there is none, 12 two have the name, 16 it does not count; else 0
unfoldable pub column_trouble_lem : List ℕ → ℕ → ℕ → ℕ
column_trouble_lem chosen k column = cond (eqb column 0) 11 (cond (ltb 16 column) 12 (cond (counts chosen k column) 0 16))

module _ (names : List ℕ) (c : ℕ) (list chosen : List ℕ) (k : ℕ) where
  -- what is wrong with item i: the same of the column that it says, or 14, it is one too many; 0 where it is not there
  unfoldable pub item_trouble_lem : ℕ → ℕ
  item_trouble_lem i = cond (has_piece 44 list i) (cond (ltb i most_items) (column_trouble_lem chosen k (item_says names c list i)) 14) 0

  -- the first item with which something is wrong, or 17
  unfoldable pub wrong_item_lem : ℕ
  wrong_item_lem = first_to (λ i. not (eqb (item_trouble_lem i) 0)) (suc most_items)

-- THE SET OF CIRCLES: the bit of place j is on exactly if one of the k columns is chosen there and an item says it
pub record Bits (names : List ℕ) (c : ℕ) (list chosen : List ℕ) (k set : ℕ) : Type 0 where
  pub each : (j : ℕ) → is_circle_lem set j ≡ (ltb j k && is_said_lem names c list (get_or chosen j 0))

-- for every list: what is wrong and where that stands, or the set of circles
pub record Circled (names : List ℕ) (c : ℕ) (list chosen : List ℕ) (k wrong start end set : ℕ) : Type 0 where
  -- what is wrong with the first item with which something is
  pub said : wrong ≡ cond (ltb (wrong_item_lem names c list chosen k) 17) (item_trouble_lem names c list chosen k (wrong_item_lem names c list chosen k)) 0
  -- and where that item stands
  pub spot : (wrong ≡ 0 → ⊥) → (start ≡ begin_of 44 list (wrong_item_lem names c list chosen k)) × (end ≡ end_at 44 list start) × (set ≡ 0)
  -- else the set
  pub bits : wrong ≡ 0 → Bits names c list chosen k set
  pub nowhere : wrong ≡ 0 → (start ≡ 0) × (end ≡ 0)
