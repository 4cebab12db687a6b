-- The fixed limits of the index kind. Assumes nothing.
use Rattle.std.specs.Prelude.{◌/◌, ◌^◌, ℕ, eqb, leb, Bool, ◌&&◌}

-- 01, What the library holds: at most this many columns
abbrev pub max_columns : ℕ
max_columns = 16

-- 01, the same: rows
abbrev pub max_rows : ℕ
max_rows = 1_048_576

-- 01, the same: levels below the root
abbrev pub max_depth : ℕ
max_depth = 24

-- 01, The tree, Shape: no radius and no distance is above this
abbrev pub max_distance : ℕ
max_distance = 1_048_560

-- 01, What the library holds: an inner node has at least and at most this many centres
abbrev pub min_centres : ℕ
min_centres = 2

abbrev pub max_centres : ℕ
max_centres = 64

-- 01, the same: the greatest leaf size
abbrev pub max_leaf : ℕ
max_leaf = 1_024

-- x is one of low .. high
abbrev pub within : ℕ → ℕ → ℕ → Bool
within low high x = leb low x && leb x high

-- 01, What the library holds: a table may have c columns
abbrev pub columns_ok_lem : ℕ → Bool
columns_ok_lem c = within 1 max_columns c

-- 01, What the library holds: an inner node may have m centres and a leaf l rows
abbrev pub share_ok_lem : ℕ → ℕ → Bool
share_ok_lem m l = within min_centres max_centres m && within m max_leaf l

-- 02, R-1: of the set of circles, no bit at or above the number of columns is on
abbrev pub circles_ok_lem : ℕ → ℕ → Bool
circles_ok_lem c o = eqb (o / 2 ^ c) 0

-- the two editions that a card may be of; edition 2 has the inner reach (02, R-4)
abbrev pub edition_ok_lem : ℕ → Bool
edition_ok_lem e = within 1 2 e
