-- The blocks that a write left: their bytes are bytes, and every block is good. Assumes nothing.
use Prim.Native.Nat.{◌*◌, ◌<◌, ◌^◌, suc, zero, ℕ}
use Rattle.blocks.specs.Blocks.{block, block_good_lem, blocks, blocks_for_lem, bytes, check_word, window}
use Rattle.image.proofs.RoundTrip.{image-is, low, written-image, written_ok}
use Rattle.image.proofs.Standing.{good-in}
use Rattle.image.specs.Below.{Below}
use Rattle.image.specs.Calls.{Writes}
use Rattle.laws.proofs.Every.{every_append}
use Rattle.laws.specs.Every.{Every}
use Rattle.laws.specs.Lists.{each}
use Rattle.words.specs.Words.{words_of_lem, words_ok_lem}
use lib.ListN.{length, take}
use mathlib.Core.Bool.{true}
use mathlib.Core.List.{List, [], ◌++◌, ◌∷◌}
use mathlib.Core.Path.{◌∙◌, ◌≡◌, ap, subst, sym}
use native.Mathlib.Omega.{arith}

-- ---- bytes
-- a fact of every entry is one of each place, where it is one of 0 too
every_place : (k : ℕ) (l : List ℕ) → 0 < k → Every (λ b. b < k) l → Below k l
every_place k [] z h p = z
every_place k (x ∷ l) z h zero = h.0
every_place k (x ∷ l) z h (suc p) = every_place k l z h.1 p

-- a word's four bytes are bytes
word_bytes : (x : ℕ) → Every (λ b. b < 256) (bytes x)
unfolding bytes
word_bytes x = (omega arith, (omega arith, (omega arith, (omega arith, tt))))

-- those of some words are
words-bytes : (ws : List ℕ) → Every (λ b. b < 256) (each bytes ws)
words-bytes [] = tt
words-bytes (x ∷ ws) = every_append (λ b. b < 256) (bytes x) (each bytes ws) (word_bytes x) (words-bytes ws)

-- so are those of k blocks
blocks-bytes : (ws : List ℕ) (k : ℕ) → Every (λ b. b < 256) (blocks ws k)
unfolding blocks block
blocks-bytes ws zero = tt
blocks-bytes ws (suc k) =
    let v : List ℕ = window ws (127 * k) 127 in
    every_append (λ b. b < 256) (blocks ws k) (each bytes v ++ bytes (check_word k v)) (blocks-bytes ws k)
    (every_append (λ b. b < 256) (each bytes v) (bytes (check_word k v)) (words-bytes v) (word_bytes (check_word k v)))

-- ---- what a write left
module _ {w before after : List ℕ} {blocks# : ℕ} (small : Below (2 ^ 32) w) (s : Writes w before after 0 blocks#) where
  -- the words are an index
  index_ok : words_ok_lem w ≡ true
  index_ok = written_ok w (length before) (sym s.said)

  -- the blocks are those of its words
  written-blocks : take (512 * blocks#) after ≡ blocks (take (words_of_lem w) w) (blocks_for_lem (words_of_lem w))
  written-blocks = written-image small s ∙ image-is w index_ok small

  -- WRITTEN-BYTES: BYTES ARE BELOW 256
  pub written-bytes : Below 256 (take (512 * blocks#) after)
  written-bytes =
      subst (Below 256) (sym written-blocks)
      (every_place 256 (blocks (take (words_of_lem w) w) (blocks_for_lem (words_of_lem w))) (omega arith)
      (blocks-bytes (take (words_of_lem w) w) (blocks_for_lem (words_of_lem w))))

  -- WRITTEN-GOOD: EVERY BLOCK IS GOOD
  pub written-good : (b : ℕ) → b < blocks# → block_good_lem (take (512 * blocks#) after) b ≡ true
  written-good b h =
      ap (λ (i : List ℕ). block_good_lem i b) written-blocks
      ∙ good-in (take (words_of_lem w) w) (blocks_for_lem (words_of_lem w)) (low w index_ok small) b (omega (arith, s.counted))
