-- The nearest search: 01, Which rows are measured, Nearest, read over the rows that are not withdrawn (02, R-5). Over the distance x of each of n
-- rows from the query, and a test `gone` that a row passes which is withdrawn. Assumes nothing.
use Rattle.std.specs.Prelude.{ℕ, eqb, leb, ltb, length, take, Bool, ◌&&◌, ◌||◌, cond, not, ◌≡◌}
use Rattle.laws.specs.Lists.{has, keep, last, look, range, tally}
use Rattle.tree.specs.Grove.{Grove}
use Rattle.tree.specs.Homes.{homes}
use mathlib.Core.List.{List, [], ◌∷◌, foldr, map}

-- answers are a row with its distance; the nearer comes first, of equals the lower row
abbrev pub before : ℕ × ℕ → ℕ × ℕ → Bool
before a b = ltb a.1 b.1 || (eqb a.1 b.1 && leb a.0 b.0)

-- one more answer, in its place
abbrev pub insert : ℕ × ℕ → List (ℕ × ℕ) → List (ℕ × ℕ)
insert a [] = a ∷ []
insert a (b ∷ bs) = cond (before a b) (a ∷ b ∷ bs) (b ∷ insert a bs)

-- all in their places
abbrev pub sort : List (ℕ × ℕ) → List (ℕ × ℕ)
sort xs = foldr insert [] xs

-- D, the last answer's distance
abbrev pub last_distance : List (ℕ × ℕ) → ℕ
last_distance as' = last (map (λ a. a.1) as')

-- a how-byte of a measured row
abbrev pub is_measured : ℕ → Bool
is_measured h = eqb h 1 || eqb h 3

-- how many rows were measured
abbrev pub measured : List ℕ → ℕ
measured how = tally is_measured how

-- how many of n rows remain: those that are not withdrawn
abbrev pub remaining : (ℕ → Bool) → ℕ → ℕ
remaining gone n = tally (λ i. not (gone i)) (range 0 n)

module _ (x : ℕ → ℕ) (gone : ℕ → Bool) (n : ℕ) where
  -- the rows that remain, with their distances
  abbrev pub candidates : List (ℕ × ℕ)
  candidates = map (λ i. (i, x i)) (keep (λ i. not (gone i)) (range 0 n))

  -- the answers: the first w of them, or all of them where there are fewer
  unfoldable pub answers : ℕ → List (ℕ × ℕ)
  answers w = take w (sort candidates)

  -- a row with the home bound b is measured, withdrawn or not: fewer than w remain, or b is at most D
  unfoldable pub passes : ℕ → ℕ → Bool
  passes w b = ltb (length candidates) w || leb b (last_distance (answers w))

  -- by row number: 3 an answer, else 1 measured, else 0
  unfoldable pub near_how : Grove → ℕ → List ℕ
  near_how t w = map (λ i. cond (has i (map (λ a. a.0) (answers w))) 3 (cond (passes w (look i (homes x t))) 1 0)) (range 0 n)

-- ---- the same, told by D alone: what a search can know that has measured the rows with home bound at most D and no other
-- the homes with a bound of at most D
abbrev pub up_to : ℕ → List (ℕ × ℕ) → List (ℕ × ℕ)
up_to D hs = keep (λ h. leb h.1 D) hs

-- the rows of these homes
abbrev pub rows_up_to : (ℕ → ℕ) → Grove → ℕ → List ℕ
rows_up_to x t D = map (λ h. h.0) (up_to D (homes x t))

module _ (x : ℕ → ℕ) (gone : ℕ → Bool) (n : ℕ) where
  -- the first w of these rows, of those that remain
  unfoldable pub best : Grove → ℕ → ℕ → List (ℕ × ℕ)
  best t w D = take w (sort (keep (λ a. has a.0 (rows_up_to x t D)) (candidates x gone n)))

  -- D is its own: w of these are there, and the last of them is at D
  pub record Own (t : Grove) (w D : ℕ) : Type 0 where
    pub enough : length (best t w D) ≡ w
    pub reached : last_distance (best t w D) ≡ D
