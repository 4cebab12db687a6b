-- What reading a card over its table promises: 02, R-11 and R-1. Assumes nothing.
use Rattle.std.specs.Prelude.{ℕ, eqb, drop, length, cond, List, ◌++◌, ◌≡◌}
use Rattle.card_refusals.specs.Tests.{read_total, said_read_lem}
use Rattle.card_words.specs.Cards.{card_words_lem}
use Rattle.measure.specs.Table.{between}
use Rattle.tree.specs.Widen.{widen}
use Rattle.words.specs.Words.{circles#, edition#}

-- the index that reading gives: an edition 1 card is widened
unfoldable pub read_words : List ℕ → ℕ → List ℕ → List ℕ
read_words T c i =
    let v = card_words_lem i in
    cond (eqb (edition# v) 1) (widen (between T c (circles# v)) v) v

-- reading the card i over the table T of c columns: the lent words before and after, the number, the block that 15 names, how many words
pub record Reads (T : List ℕ) (c : ℕ) (i before after : List ℕ) (number place words : ℕ) : Type 0 where
  -- the first that applies, in the order above, else 0
  pub said : number ≡ (said_read_lem T c i (length before)).0
  -- for 15 the lowest wrong block, else zero
  pub placed : place ≡ (said_read_lem T c i (length before)).1
  -- the words of an edition 2 index; none on a refusal
  pub counted : words ≡ cond (eqb number 0) (read_total i) 0
  -- the index, and what stood after it; on a refusal all as it was
  pub lent : after ≡ cond (eqb number 0) (read_words T c i ++ drop (read_total i) before) before
