-- An index that was written, and spoilt before it is read: any one changed word, and any block at another's place, is found. Assumes nothing.
use Prim.Native.Nat.{◌%◌, ◌*◌, ◌+◌, ◌/◌, ◌<◌, ◌^◌, ◌≤◌, ℕ}
use Rattle.blocks.specs.Blocks.{block_good_lem, word_at}
use Rattle.card.proofs.Damage.{one-block-read, one-word-read, wrong-named}
use Rattle.card.specs.Calls.{Reads}
use Rattle.image.proofs.Found.{one_word}
use Rattle.image.proofs.OneByte.{block_same}
use Rattle.image.proofs.Small.{write_small}
use Rattle.image.proofs.WrittenBlocks.{written-bytes, written-good}
use Rattle.image.specs.Below.{Below}
use Rattle.image.specs.Calls.{Writes}
use Rattle.image.specs.Changed.{Changed, Moved, block_word}
use Rattle.limits.proofs.Numbers.{Sized}
use Rattle.limits.specs.Said.{Said}
use lib.ListN.{length, take}
use mathlib.Core.Bool.{true}
use mathlib.Core.List.{List}
use mathlib.Core.Path.{◌∙◌, ◌≡◌, ap, subst, sym}
use native.Mathlib.Omega.{arith}

-- the index w was written; what is read over a table that 1, 3 and 4 do not meet is i, as many blocks
module _ {T : List ℕ} {c : ℕ} {w before after : List ℕ} {blocks : ℕ} (fine : Sized (length T) c) (small : Below (2 ^ 32) w)
    (s : Writes w before after 0 blocks) (i : List ℕ) (size : length i ≡ 512 * blocks) {room room' : List ℕ} {number place words : ℕ}
    (r : Reads T c i room room' number place words) where
  -- the written blocks
  abbrev pub was : List ℕ
  was = take (512 * blocks) after

  -- SPOILT-WORD: OF ALL THEIR WORDS JUST WORD q DIFFERS: 15 NAMES ITS BLOCK, AND NOTHING IS READ
  pub spoilt-word : Below 256 i → (q : ℕ) → q < 128 * blocks
      → ((j : ℕ) → j < 128 * blocks → (j ≡ q → ⊥) → word_at was (4 * j) ≡ word_at i (4 * j)) → (word_at was (4 * q) ≡ word_at i (4 * q) → ⊥)
      → (number ≡ 15) × (place ≡ q / 128) × (words ≡ 0) × (room' ≡ room)
  spoilt-word bytes q h same differs =
      let b : ℕ = q / 128 in
      let k : ℕ = q % 128 in
      let word : (a j : ℕ) → 512 * a + 4 * j ≡ 4 * (128 * a + j) = λ a j. omega arith in
      let others : (a j : ℕ) → a < blocks → j < 128 → (128 * a + j ≡ q → ⊥) → block_word was a j ≡ block_word i a j =
      λ a j ha hj n. subst (λ (p : ℕ). word_at was p ≡ word_at i p) (sym (word a j)) (same (128 * a + j) (omega arith) n) in
      let here : 4 * (128 * b + k) ≡ 4 * q = omega arith in
      let C : Changed was i b k = record {
        inside = omega arith;
        same = λ j hj n. others b j (omega arith) hj (λ e. n (omega arith));
        differs = λ e. differs (subst (λ (p : ℕ). word_at was p ≡ word_at i p) (word b k ∙ here) e);
      } in
      let good : block_good_lem was b ≡ true = written-good small s b (omega arith) in
      let z = one-word-read T c fine was i b (omega (arith, size)) (omega (arith, size)) r k (written-bytes small s) bytes C good in
      let n = wrong-named T c fine i b (omega (arith, size)) (omega (arith, size)) (one_word was i b k (written-bytes small s) bytes C good)
      (λ a l. sym (block_same was i a (λ j hj. others a j (omega arith) hj (λ e. omega arith))) ∙ written-good small s a (omega arith)) (length room) in
      (z.0, r.placed ∙ ap (λ (t : Said). t.1) n, z.2, z.3)

  -- SPOILT-BLOCK: BLOCK a OF THEM STANDS AS BLOCK b: 15, AND NOTHING IS READ. The block named is b, or a lower one that is wrong too
  pub spoilt-block : (a b : ℕ) → a < blocks → b < blocks → Moved was i a b
      → (number ≡ 15) × (place ≤ b) × (words ≡ 0) × (room' ≡ room)
  spoilt-block a b ha hb mv =
      one-block-read T c fine was i b (omega (arith, size)) (omega (arith, size)) r a (omega (arith, write_small s)) (omega (arith, write_small s)) mv
      (written-good small s a ha)
