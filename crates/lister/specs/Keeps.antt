-- What is kept of standard input: its front, as far as the text's buffer goes. A working notion, on which no promise rests. Assumes nothing.
use Rattle.std.specs.Prelude.{◌+◌, ◌-◌, min, ℕ, length, List, ◌≡◌}
use Rattle.std.proofs.Math.Seq.{paste}

-- how many of the bytes that came fit behind the first `kept` of the text
abbrev pub fitting : List ℕ → List ℕ → ℕ → ℕ
fitting came text kept = min (length came) (length text - kept)

-- these stand there now, and the rest of the buffer is as it was
pub record Keeps (came text : List ℕ) (kept : ℕ) (text' : List ℕ) (r : ℕ) : Type 0 where
  pub counted : r ≡ kept + fitting came text kept
  pub content : text' ≡ paste text kept came (fitting came text kept)
