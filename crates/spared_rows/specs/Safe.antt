-- How far from its own centre a row may be and need not be measured from the others. A working notion, on which no promise rests. Assumes nothing.
use Rattle.std.specs.Prelude.{◌<◌, ◌≤◌, ℕ, get_or, List}

module _ (d : ℕ → ℕ → ℕ) where
  -- no row within h of row g is closer to row f
  abbrev pub Safe : ℕ → ℕ → ℕ → Type 0
  Safe g f h = (r : ℕ) → d g r ≤ h → d g r ≤ d f r

  -- nor to any of the first m of fs
  abbrev pub SafeTo : List ℕ → ℕ → ℕ → ℕ → Type 0
  SafeTo fs g m h = (i : ℕ) → i < m → Safe g (get_or fs i 0) h
