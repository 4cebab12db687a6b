-- A number in a text. A working notion, on which no promise rests. Assumes nothing.
use Rattle.std.specs.Prelude.{◌+◌, ◌≤◌, ℕ, set, List, ◌≡◌}
use Rattle.io.specs.Digits.{IsDigitCount, last_digits}
use Rattle.std.proofs.Math.Seq.{paste}

-- n stands in the text from byte `at` on, in decimal, with no more digits than hold it, and the mark behind it; all else is as it was
pub record Told (text : List ℕ) (at n mark : ℕ) (text' : List ℕ) (end : ℕ) : Type 0 where
  pub places : ℕ
  pub few : places ≤ 20
  pub fewest : IsDigitCount 10 1 n places
  pub ends : end ≡ at + places + 1
  pub content : text' ≡ set (paste text at (last_digits 10 places n) places) (at + places) mark
