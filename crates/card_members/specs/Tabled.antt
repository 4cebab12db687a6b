-- A card with the table that its index is over. A working notion, on which no promise rests. Assumes nothing.
use Rattle.std.specs.Prelude.{ℕ, List}
use Rattle.card_words.specs.Cards.{Held, card_words_lem}
use Rattle.measure.specs.Table.{rows_of}
use Rattle.words.specs.InShape.{Over}

-- the card's index is in shape and the table's
pub record Tabled (T : List ℕ) (c : ℕ) (i : List ℕ) : Type 0 where
  pub held : Held i
  pub over : Over (card_words_lem i) (rows_of T c) c
