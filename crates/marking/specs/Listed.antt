-- The rows that a search has in, as a list: word 0 says how many, and behind it stand for each its distance and its row. Assumes nothing.
use Rattle.std.specs.Prelude.{◌*◌, ◌+◌, ◌-◌, ◌/◌, min, ℕ, eqb, leb, ltb, get_or, length, set, Bool, cond, List, [], ◌∷◌, ◌≡◌}
use Rattle.laws.specs.Lists.{each, range}
use Rattle.limits.specs.Limits.{max_rows}
use Rattle.marking.specs.Written.{write}
use Rattle.tree.specs.Radius.{veiled}

-- what stands for the distance of a row that was not measured
abbrev pub unmeasured : ℕ
unmeasured = 4_294_967_295

-- how many rows a list has room for: two words each behind the count, and no more than there can be rows. One of no word has room for none
abbrev pub room_for : List ℕ → ℕ
room_for l = min ((length l - 1) / 2) max_rows

-- row i at the distance d behind those that are listed, where there is room
unfoldable pub entered : ℕ → ℕ → List ℕ → List ℕ
entered d i l = cond (ltb (get_or l 0 0) (room_for l)) (set (set (set l (2 * get_or l 0 0 + 1) d) (2 * get_or l 0 0 + 2) i) 0 (get_or l 0 0 + 1)) l

-- a mark: of a row that is in, its distance where it was measured; of one that is out, nothing
unfoldable pub listed : (ℕ → ℕ) → ℕ × ℕ → List ℕ → List ℕ
listed x m l = cond (leb 2 m.1) (entered (cond (eqb m.1 3) (x m.0) unmeasured) m.0 l) l

-- each mark in order
unfoldable pub told : (ℕ → ℕ) → List (ℕ × ℕ) → List ℕ → List ℕ
told x [] l = l
told x (m ∷ ms) l = told x ms (listed x m l)

-- the marks f lo, f (lo + 1), .. up to, not with, f hi
unfoldable pub span : (ℕ → List (ℕ × ℕ)) → ℕ → ℕ → List (ℕ × ℕ)
span f lo hi = each f (range lo (hi - lo))

-- THE MARKS ms ARE LEFT by a search that shows no row that is gone, x being the rows' distances: written to the how-bytes, and the rows in listed
pub record Leaves (gone : ℕ → Bool) (x : ℕ → ℕ) (ms : List (ℕ × ℕ)) (how how' list list' : List ℕ) : Type 0 where
  pub bytes : how' ≡ write (veiled gone ms) how
  pub rows : list' ≡ told x (veiled gone ms) list
