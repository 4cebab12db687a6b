-- A card whose index is in shape and the table's: its rows lie in the table. Assumes nothing.
use Prim.Native.Nat.{◌*◌, ◌+◌, ◌<◌, ◌≤◌, ℕ}
use Rattle.card_members.specs.Tabled.{Tabled}
use Rattle.card_words.proofs.Cards.{card-held, card-words}
use Rattle.card_words.specs.Cards.{Carded, card_words_lem}
use Rattle.limits.specs.Limits.{max_columns}
use Rattle.measure.proofs.Rows.{row_ends}
use Rattle.measure.specs.Table.{rows_of}
use Rattle.words.proofs.InShape.{in_shape}
use Rattle.words.specs.Shape.{shape_ok_lem}
use Rattle.words.specs.Words.{c#, n#}
use lib.ListN.{length}
use mathlib.Core.Bool.{true}
use mathlib.Core.List.{List}
use mathlib.Core.Path.{◌≡◌}
use native.Mathlib.Nat.{le_trans, mul-div-le}
use native.Mathlib.Omega.{arith}

-- WHAT THE TESTS OF A READING SAY: header and blocks, the header's rows and columns, the shape
pub card_tabled : (T : List ℕ) (c : ℕ) (i : List ℕ) → Carded i → n# (card_words_lem i) ≡ rows_of T c → c# (card_words_lem i) ≡ c → shape_ok_lem (card_words_lem i) ≡ true
    → Tabled T c i
card_tabled T c i C p q s =
    record { held = card-held i C; over = record { shape = in_shape (card_words_lem i) (card-words i C.header) s; rows = p; columns = q } }

module _ (T : List ℕ) (c : ℕ) (i : List ℕ) (P : Tabled T c i) where
  -- the table has no more columns than there may be: the card's header says as many
  pub columns-few : c ≤ max_columns
  columns-few = omega (arith, P.over.columns, P.over.shape.whole.columns.1)

  -- a row below n lies in the table
  pub row-there : (j : ℕ) → j < n# (card_words_lem i) → c * j + c ≤ length T
  row-there j h = le_trans (row_ends c (rows_of T c) j (omega (arith, P.over.rows))) (mul-div-le (length T) c)
