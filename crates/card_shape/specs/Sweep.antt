-- The pass over a card's positions. A working notion, on which no promise rests. Assumes nothing.
use Rattle.std.specs.Prelude.{◌*◌, ◌+◌, ◌≤◌, ℕ, List, ◌≡◌}
use Rattle.laws.specs.Upto.{most_to}
use Rattle.words.specs.Words.{dist#, n#, pair_at, row#}

-- the greatest row number and the greatest distance of the positions before p
pub record GreatestTo (w : List ℕ) (p row far : ℕ) : Type 0 where
  pub rows : row ≡ most_to (row# w) p
  pub fars : far ≡ most_to (dist# w) p

-- the words of the positions p up to `end` stand in block b, where `base` is the first position's first word
pub record InBlock (w : List ℕ) (b base p end : ℕ) : Type 0 where
  pub first : base ≡ pair_at w 0
  pub from : 127 * b ≤ base + 2 * p
  pub to : base + 2 * end ≤ 127 * b + 127
  pub upto : p ≤ end
  pub some : end ≤ n# w
