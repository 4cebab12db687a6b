-- The words of a lent buffer that are zero. A working notion, on which no promise rests. Assumes nothing.
use Rattle.std.specs.Prelude.{◌<◌, ◌≤◌, ℕ, get_or, length, List, ◌≡◌}

-- the first n words are there and zero
pub record Clear (n : ℕ) (work : List ℕ) : Type 0 where
  pub long : n ≤ length work
  pub zeros : (i : ℕ) → i < n → get_or work i 0 ≡ 0
