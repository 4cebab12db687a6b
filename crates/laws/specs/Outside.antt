-- What a call that writes to a part of a list leaves as it was. A working notion, on which no promise rests. Assumes nothing.
use Rattle.std.specs.Prelude.{◌<◌, ◌≤◌, ℕ, get_or, length, List, ◌≡◌}

-- the words below lo and from hi on are as they were, and so is the length
pub record Outside (l₀ l : List ℕ) (lo hi : ℕ) : Type 0 where
  pub under : (k : ℕ) → k < lo → get_or l k 0 ≡ get_or l₀ k 0
  pub over : (k : ℕ) → hi ≤ k → get_or l k 0 ≡ get_or l₀ k 0
  pub same : length l ≡ length l₀
