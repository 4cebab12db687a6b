-- A row's place among all that remain, as her words have it. Assumes nothing.
use Rattle.std.specs.Prelude.{ℕ, eqb, ltb, Bool, ◌&&◌, ◌||◌, not}
use Rattle.laws.specs.Lists.{range, tally}

-- of n rows at x, how many of those that remain come before row i: those that are closer, and of those as close the ones with a lower number
abbrev pub ahead : (ℕ → ℕ) → (ℕ → Bool) → ℕ → ℕ → ℕ
ahead x gone n i = tally (λ j. not (gone j) && (ltb (x j) (x i) || (eqb (x j) (x i) && ltb j i))) (range 0 n)
