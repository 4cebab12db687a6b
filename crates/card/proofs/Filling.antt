-- What a reading puts into the room: the words of either edition. Assumes nothing.
use Prim.Native.Nat.{◌*◌, ◌+◌, ◌/◌, ◌≤◌, ℕ}
use Rattle.blocks.specs.Blocks.{image_words}
use Rattle.card_widen.specs.Parts.{wide_long, with_wide}
use Rattle.card_words.proofs.Cards.{card-long, card-total}
use Rattle.card_words.specs.Cards.{Held, card_words_lem}
use Rattle.card_refusals.specs.Tests.{read_total}
use Rattle.card.specs.Calls.{read_words}
use Rattle.image.specs.Image.{image_total}
use Rattle.measure.specs.Table.{between}
use Rattle.tree.specs.Widen.{widen}
use Rattle.words.specs.Words.{nodes#, circles#, edition#, n#, width}
use borrow.Author.Tests.{eq-eqb, ne_eqb}
use lib.ListN.{drop, length}
use mathlib.Core.Bool.{Bool, cond}
use mathlib.Core.List.{List, ◌++◌}
use mathlib.Core.Path.{◌∙◌, ◌≡◌, ap, ap₂, refl, sym}
use native.Mathlib.Omega.{arith}

module _ (i : List ℕ) where
  -- how many words are read is how many the widened index has
  pub total-wide : read_total i ≡ wide_long (card_words_lem i)
  unfolding read_total
  total-wide = refl

  module _ (H : Held i) where
    -- what is read of an edition 2 card is as long as the card's index
    pub total-same : (edition# (card_words_lem i) ≡ 1 → ⊥) → read_total i ≡ image_total i
    unfolding read_total
    total-same h =
        let e : edition# (card_words_lem i) ≡ 2 = omega (arith, H.whole.edition.0, H.whole.edition.1, h) in
        ap (λ (k : ℕ). 8 + width k * nodes# (card_words_lem i) + 2 * n# (card_words_lem i)) (sym e) ∙ card-total i ∙ card-long i

    -- and stands in the blocks
    pub total_inside : (edition# (card_words_lem i) ≡ 1 → ⊥) → read_total i ≤ 127 * (length i / 512)
    total_inside h = omega (arith, total-same h, card-long i, H.inside)

    -- an edition 2 card's words are read as they are
    pub same-put : (T : List ℕ) (c : ℕ) (room : List ℕ) {room' : List ℕ} {t : ℕ} → (edition# (card_words_lem i) ≡ 1 → ⊥) → t ≡ read_total i
        → room' ≡ image_words i t ++ drop t room → room' ≡ read_words T c i ++ drop (read_total i) room
    unfolding read_words card_words_lem
    same-put T c room h e q =
        let b = ne_eqb (edition# (card_words_lem i)) 1 h in
        q ∙ ap₂ (λ (a b : ℕ). image_words i a ++ drop b room) (e ∙ total-same h) e
        ∙ ap (λ (b : Bool). cond b (widen (between T c (circles# (card_words_lem i))) (card_words_lem i)) (card_words_lem i) ++ drop (read_total i) room) (sym b)

  -- an edition 1 card's are widened
  pub wide-put : (T : List ℕ) (c : ℕ) (room : List ℕ) {room' : List ℕ} → edition# (card_words_lem i) ≡ 1
      → room' ≡ with_wide (between T c (circles# (card_words_lem i))) (card_words_lem i) room → room' ≡ read_words T c i ++ drop (read_total i) room
  unfolding read_words read_total
  wide-put T c room e q =
      let b = eq-eqb (edition# (card_words_lem i)) 1 e in
      q ∙ ap (λ (b : Bool). cond b (widen (between T c (circles# (card_words_lem i))) (card_words_lem i)) (card_words_lem i) ++ drop (read_total i) room) (sym b)
