-- Sets and orders whose outcome was worked out by hand: 02, R-5 and R-12. Assumes nothing.
use Rattle.std.specs.Prelude.{ℕ, eqb, Bool, List, [], ◌∷◌}
use Rattle.laws.specs.Lists.{keep, range, same}
use Rattle.orders.specs.Orders.{Order, after, restoring, said_order, striking}
use Rattle.rowset.specs.Sets.{bit_of, is_in_lem, restored, set_bad_lem, struck}

pub data Case : Type 0 where
  -- an order in a set of n rows, on row r, gives this number
  says : List ℕ → ℕ → ℕ → ℕ → Case
  -- of the first n rows these are in the set
  holds : List ℕ → ℕ → List ℕ → Case
  -- the orders make the first set the second
  leaves : List ℕ → List Order → List ℕ → Case

-- a case comes out as it says
unfoldable pub right : Case → Bool
unfolding bit_of restored said_order set_bad_lem struck
right (says s n r k) = eqb (said_order s n r).0 k
right (holds s n rs) = same (keep (is_in_lem s) (range 0 n)) rs
right (leaves s os t) = same (after s os) t

-- 20 by the length: too few words and too many, for no rows, for a multiple of 32, and for more rows than a table may have
abbrev pub lengths : List Case
lengths =
    says [] 5 0 20
    ∷ says (0 ∷ 0 ∷ []) 5 0 20
    ∷ says (0 ∷ []) 0 0 20
    ∷ says (0 ∷ 0 ∷ []) 32 0 20
    ∷ says (0 ∷ []) 33 0 20
    ∷ says (0 ∷ []) 1_048_577 0 20
    ∷ []

-- 20 by a bit: that of row n, and others above it up to the last of a word
abbrev pub bits : List Case
bits =
    says (32 ∷ []) 5 0 20
    ∷ says (31 ∷ []) 5 0 0
    ∷ says (2_147_483_648 ∷ []) 5 0 20
    ∷ says (4_294_967_295 ∷ []) 32 0 0
    ∷ says (4_294_967_295 ∷ []) 31 0 20
    ∷ says (0 ∷ 1 ∷ []) 33 0 0
    ∷ says (0 ∷ 2 ∷ []) 33 0 20
    ∷ []

-- 26: row n and those above it, and 20 comes first
abbrev pub rows : List Case
rows =
    says (31 ∷ []) 5 4 0
    ∷ says (31 ∷ []) 5 5 26
    ∷ says (32 ∷ []) 5 5 20
    ∷ says [] 0 0 26
    ∷ says (0 ∷ []) 32 31 0
    ∷ says (0 ∷ []) 32 32 26
    ∷ says (0 ∷ 0 ∷ []) 33 32 0
    ∷ says [] 1_048_577 1_048_577 20
    ∷ []

-- which rows are in; those beyond the words are not
abbrev pub members : List Case
members =
    holds (5 ∷ []) 8 (0 ∷ 2 ∷ [])
    ∷ holds (2_147_483_648 ∷ 3 ∷ []) 40 (31 ∷ 32 ∷ 33 ∷ [])
    ∷ holds [] 8 []
    ∷ holds (1 ∷ []) 70 (0 ∷ [])
    ∷ []

-- strikes and restores of single rows: the first bit of a word, the last, and one in the middle; a strike of what is struck, and a restore of what is not
abbrev pub singles : List Case
singles =
    leaves (0 ∷ []) (striking 0 ∷ []) (1 ∷ [])
    ∷ leaves (0 ∷ []) (striking 31 ∷ []) (2_147_483_648 ∷ [])
    ∷ leaves (7 ∷ 0 ∷ []) (striking 32 ∷ []) (7 ∷ 1 ∷ [])
    ∷ leaves (8 ∷ []) (striking 3 ∷ []) (8 ∷ [])
    ∷ leaves (8 ∷ []) (striking 3 ∷ striking 3 ∷ striking 1 ∷ []) (10 ∷ [])
    ∷ leaves (4_294_967_295 ∷ []) (restoring 3 ∷ []) (4_294_967_287 ∷ [])
    ∷ leaves (4_294_967_295 ∷ 4_294_967_295 ∷ []) (restoring 63 ∷ []) (4_294_967_295 ∷ 2_147_483_647 ∷ [])
    ∷ leaves (5 ∷ []) (restoring 1 ∷ []) (5 ∷ [])
    ∷ []

-- A STRIKE AND A RESTORE OF ONE ROW, in either sequence, where it was not struck before and where it was: they may not change places
abbrev pub turns : List Case
turns =
    leaves (0 ∷ []) (striking 0 ∷ restoring 0 ∷ []) (0 ∷ [])
    ∷ leaves (0 ∷ []) (restoring 0 ∷ striking 0 ∷ []) (1 ∷ [])
    ∷ leaves (1 ∷ []) (striking 0 ∷ restoring 0 ∷ []) (0 ∷ [])
    ∷ leaves (1 ∷ []) (restoring 0 ∷ striking 0 ∷ []) (1 ∷ [])
    ∷ []

-- the orders of two offices, of which one says strike 1, restore 2, strike 33 and the other restore 1, strike 4: one office's first, and mixed in two
-- ways. Row 1 stands in both, and the two mixtures in which its own orders keep their sequence give the same
abbrev pub offices : List Case
offices =
    leaves (4 ∷ 0 ∷ []) (striking 1 ∷ restoring 2 ∷ striking 33 ∷ restoring 1 ∷ striking 4 ∷ []) (16 ∷ 2 ∷ [])
    ∷ leaves (4 ∷ 0 ∷ []) (striking 1 ∷ restoring 1 ∷ striking 4 ∷ restoring 2 ∷ striking 33 ∷ []) (16 ∷ 2 ∷ [])
    ∷ leaves (4 ∷ 0 ∷ []) (restoring 1 ∷ striking 4 ∷ striking 1 ∷ restoring 2 ∷ striking 33 ∷ []) (18 ∷ 2 ∷ [])
    ∷ []
