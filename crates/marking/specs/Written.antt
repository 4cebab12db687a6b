-- How-bytes as marks that are written one after the other. Assumes nothing.
use Rattle.std.specs.Prelude.{◌-◌, suc, zero, ℕ, set, Bool, List, [], ◌∷◌}
use Rattle.laws.specs.Lists.{each, range}
use Rattle.tree.specs.Radius.{shown, veiled}

-- the how-byte v for row i. 0 is not written: it stands there from the start
unfoldable pub byte : ℕ → ℕ → List ℕ → List ℕ
byte i zero h = h
byte i (suc v) h = set h i (suc v)

-- each mark, a row with its how-byte, in order
unfoldable pub write : List (ℕ × ℕ) → List ℕ → List ℕ
write [] h = h
write (m ∷ ms) h = write ms (byte m.0 m.1 h)

-- ---- of a search that shows no row that is gone
-- row i with the how-byte v
unfoldable pub mark : (ℕ → Bool) → ℕ → ℕ → List ℕ → List ℕ
mark gone i v h = byte i (shown gone (i, v)).1 h

-- the marks f lo, f (lo + 1), .. up to, not with, f hi
unfoldable pub marked : (ℕ → Bool) → (ℕ → List (ℕ × ℕ)) → ℕ → ℕ → List ℕ → List ℕ
marked gone f lo hi h = write (veiled gone (each f (range lo (hi - lo)))) h
