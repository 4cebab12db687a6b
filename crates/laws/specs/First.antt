-- The first number that passes a test, as a search in ascending order finds it. A working notion, on which no promise rests. Assumes nothing.
use Rattle.std.specs.Prelude.{◌<◌, ◌≤◌, ℕ, Bool, false, true, ◌≡◌}

-- r is the first number from lo on that passes f, or hi where none below hi does
pub record First (f : ℕ → Bool) (lo hi r : ℕ) : Type 0 where
  pub from : lo ≤ r
  pub to : r ≤ hi
  pub none : (p : ℕ) → lo ≤ p → p < r → f p ≡ false
  pub here : r < hi → f r ≡ true
