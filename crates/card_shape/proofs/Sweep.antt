-- The pass over a card's positions: the words of a block's positions, and the greatest so far. Assumes nothing.
use Prim.Native.Nat.{◌*◌, ◌+◌, ◌<◌, ◌≤◌, max, ℕ}
use Rattle.blocks.proofs.InBlocks.{block_word_lem, inside-block}
use Rattle.blocks.specs.Blocks.{word_at}
use Rattle.card_shape.specs.Sweep.{GreatestTo, InBlock}
use Rattle.card_words.proofs.Cards.{card-at}
use Rattle.card_words.specs.Cards.{Held, card_words_lem}
use Rattle.laws.proofs.Upto.{most-next, most-none}
use Rattle.words.proofs.Positions.{dist-word, row_word}
use Rattle.words.specs.Words.{dist#, row#}
use lib.ListN.{length}
use mathlib.Core.List.{List}
use mathlib.Core.Path.{◌∙◌, ◌≡◌, ap, ap₂, sym}
use native.Mathlib.Omega.{arith}

-- ---- the greatest so far
module _ (w : List ℕ) where
  -- of no positions
  pub greatest-start : GreatestTo w 0 0 0
  greatest-start = record { rows = sym (most-none (row# w)); fars = sym (most-none (dist# w)) }

  -- of one more, whose row number and distance are x and y
  pub greatest-next : {p row far x y row' far' : ℕ} → GreatestTo w p row far → x ≡ row# w p → y ≡ dist# w p → row' ≡ max row x → far' ≡ max far y
      → GreatestTo w (p + 1) row' far'
  greatest-next {p} G ex ey er ef =
      record {
        rows = er ∙ ap₂ max G.rows ex ∙ sym (most-next (row# w) p);
        fars = ef ∙ ap₂ max G.fars ey ∙ sym (most-next (dist# w) p);
      }

-- ---- the words of the positions p up to `end`, which stand in block b: position q is one of them
module _ (i : List ℕ) (H : Held i) {b base p end : ℕ} (B : InBlock (card_words_lem i) b base p end) (q : ℕ) (l : p ≤ q) (h : q < end) where
  -- they lie within the bytes
  pub pair_inside : 4 * base + 4 * b + 8 * q + 8 ≤ length i
  pair_inside =
      omega (
        arith,
        inside-block b (base + 2 * q + 1) (length i) (omega (arith, B.from)) (omega (arith, B.to))
            (omega (arith, B.first, B.some, H.whole.words, H.inside)),
      )

  -- the first is its row number
  pub block_row : {v : ℕ} → v ≡ word_at i (4 * base + 4 * b + 8 * q) → v ≡ row# (card_words_lem i) q
  block_row e =
      block_word_lem i b (base + 2 * q) (omega (arith, B.from)) (omega (arith, B.to)) (e ∙ ap (word_at i) (omega arith))
      ∙ card-at i (base + 2 * q) (omega (arith, B.first, B.some, H.whole.words)) ∙ row_word (card_words_lem i) base q B.first

  -- the second its distance
  pub block-dist : {v : ℕ} → v ≡ word_at i (4 * base + 4 * b + 8 * q + 4) → v ≡ dist# (card_words_lem i) q
  block-dist e =
      block_word_lem i b (base + 2 * q + 1) (omega (arith, B.from)) (omega (arith, B.to)) (e ∙ ap (word_at i) (omega arith))
      ∙ card-at i (base + 2 * q + 1) (omega (arith, B.first, B.some, H.whole.words)) ∙ dist-word (card_words_lem i) base q B.first
