-- The widened header, as it is put into the room. Assumes nothing.
use Prim.Native.Nat.{◌<◌, ℕ}
use Rattle.blocks.specs.Blocks.{image_word_lem, image_words}
use Rattle.card_top.specs.Header.{top_of}
use Rattle.card_words.proofs.Cards.{card-at}
use Rattle.card_words.specs.Cards.{Held, card_words_lem}
use Rattle.words.proofs.Strides.{header-in}
use Rattle.words.specs.Words.{at}
use lib.Dec.{lit<}
use lib.ListN.{drop, set}
use mathlib.Core.List.{List, ◌++◌}
use mathlib.Core.Path.{◌∙◌, ◌≡◌, ap}
use native.Mathlib.Omega.{arith}

-- the header's words as they stand, but for the edition
pub top_put : (i : List ℕ) → Held i → (room : List ℕ) {r : List ℕ} → r ≡ image_words i 8 ++ drop 8 room → set r 0 2 ≡ top_of (card_words_lem i) ++ drop 8 room
unfolding image_words
top_put i H room e =
    let f : (j : ℕ) → j < 8 → image_word_lem i j ≡ at (card_words_lem i) j = λ j h. card-at i j (omega (arith, header-in (card_words_lem i) H.whole)) in
    ap (λ l. set l 0 2) e ∙ rw (f 1 (lit< tt), f 2 (lit< tt), f 3 (lit< tt), f 4 (lit< tt), f 5 (lit< tt), f 6 (lit< tt), f 7 (lit< tt))
