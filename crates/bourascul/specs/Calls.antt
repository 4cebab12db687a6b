-- What the calls for C promise besides what the calls below them do. Assumes nothing.
use Rattle.std.specs.Prelude.{min, ℕ, List, ◌≡◌}
use Rattle.card.specs.Calls.{Reads}

-- reading an image over its table: the number of a wrong block is given in 32 bits, and one beyond as the greatest that they hold
pub record ReadsBlock (T : List ℕ) (c : ℕ) (i before after : List ℕ) (number place words : ℕ) : Type 0 where
  pub block : ℕ
  pub reads : Reads T c i before after number block words
  pub named : place ≡ min block 4294967295
