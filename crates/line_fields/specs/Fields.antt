-- Where the fields of a line stand. A line is a list of bytes. Assumes nothing.
use Rattle.std.specs.Prelude.{◌-◌, ◌<◌, ◌≤◌, suc, zero, ℕ, eqb, Bool, ◌||◌, cond, false, not, true, length, List, ◌≡◌}
use Rattle.asking.specs.Pieces.{part_of, place_from}
use Rattle.asking.specs.declared.pieces.Piece.{Piece}

-- a comma, a semicolon, a tab or a blank stands between two fields
unfoldable pub between : ℕ → Bool
between b = eqb b 44 || (eqb b 59 || (eqb b 9 || eqb b 32))

-- the byte does so, or does not, as `parting` says
unfoldable pub stopping : Bool → ℕ → Bool
stopping parting b = cond parting (between b) (not (between b))

-- the first field behind place `at`: where it starts and where it ends
unfoldable pub span_from : List ℕ → ℕ → ℕ × ℕ
span_from l at = (place_from (stopping false) l at, place_from (stopping true) l (place_from (stopping false) l at))

-- field j, from 0 on
unfoldable pub span_of : List ℕ → ℕ → ℕ × ℕ
span_of l zero = span_from l 0
span_of l (suc j) = span_from l (span_of l j).1

-- what stands in a column, from 1 on
unfoldable pub field_in : List ℕ → ℕ → List ℕ
field_in l column = part_of l (span_of l (column - 1)).0 (span_of l (column - 1)).1

-- p is where the field of a column stands, from 1 on, and it is not empty
pub record IsField (l : List ℕ) (column : ℕ) (p : Piece) : Type 0 where
  pub starts : p.start ≡ (span_of l (column - 1)).0
  pub ends : p.end ≡ (span_of l (column - 1)).1
  pub some : p.start < p.end
  pub inside : p.end ≤ length l
