-- The rows of whole entries, read one by one, and entries of rows at one centre, cut. Assumes nothing.
use Prim.Native.Nat.{◌%◌, ◌*◌, ◌<◌, ◌≤◌, suc, zero, ℕ}
use Rattle.split.proofs.Laid.{under}
use Rattle.split.specs.Runs.{rows}
use lib.ListN.{drop, get_or, length, take}
use mathlib.Core.List.{List, [], ◌∷◌}
use mathlib.Core.Path.{◌≡◌, ap, refl}
use native.Mathlib.Omega.{arith}

-- the first row, and the others
pub rows_front : (es : List ℕ) → 3 ≤ length es → rows es ≡ get_or es 0 0 ∷ rows (drop 3 es)
unfolding rows
rows_front [] h = absurd (omega arith)
rows_front (i ∷ []) h = absurd (omega arith)
rows_front (i ∷ x ∷ []) h = absurd (omega arith)
rows_front (i ∷ x ∷ a ∷ es) h = refl

-- a row an entry
pub rows_count : (es : List ℕ) → length es % 3 ≡ 0 → 3 * length (rows es) ≡ length es
unfolding rows
rows_count [] h = refl
rows_count (i ∷ []) h = absurd (omega arith)
rows_count (i ∷ x ∷ []) h = absurd (omega arith)
rows_count (i ∷ x ∷ a ∷ es) h = omega (arith, rows_count es (omega arith))

-- the j-th row stands at the j-th entry
pub rows-read : (es : List ℕ) (j : ℕ) → length es % 3 ≡ 0 → 3 * j < length es → get_or (rows es) j 0 ≡ get_or es (3 * j) 0
unfolding rows
rows-read [] j h k = absurd (omega arith)
rows-read (i ∷ []) j h k = absurd (omega arith)
rows-read (i ∷ x ∷ []) j h k = absurd (omega arith)
rows-read (i ∷ x ∷ a ∷ es) zero h k = refl
rows-read (i ∷ x ∷ a ∷ es) (suc j) h k =
    let up : 3 * suc j ≡ suc (suc (suc (3 * j))) = omega arith in
    rw up (rows-read es j (omega arith) (omega arith))

-- the first k of some entries
pub under_take : (f : ℕ → ℕ) (a k : ℕ) (xs : List ℕ) → take (3 * k) (under f a xs) ≡ under f a (take k xs)
under_take f a zero xs = refl
under_take f a (suc k) [] =
    let up : 3 * suc k ≡ suc (suc (suc (3 * k))) = omega arith in
    rw up
under_take f a (suc k) (x ∷ xs) =
    let up : 3 * suc k ≡ suc (suc (suc (3 * k))) = omega arith in
    rw up (ap (λ (l : List ℕ). x ∷ f x ∷ a ∷ l) (under_take f a k xs))

-- and those behind them
pub under_drop : (f : ℕ → ℕ) (a k : ℕ) (xs : List ℕ) → drop (3 * k) (under f a xs) ≡ under f a (drop k xs)
under_drop f a zero xs = refl
under_drop f a (suc k) [] =
    let up : 3 * suc k ≡ suc (suc (suc (3 * k))) = omega arith in
    rw up
under_drop f a (suc k) (x ∷ xs) =
    let up : 3 * suc k ≡ suc (suc (suc (3 * k))) = omega arith in
    rw up (under_drop f a k xs)
