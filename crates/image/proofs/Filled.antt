-- A block as it is written: the bytes of its first words stand at the front of its part, and the check has gone over them. Assumes nothing.
use Rattle.std.proofs.Common.{◌≡◌, ℕ, ◌+◌, ◌-◌, ◌*◌, ◌%◌, ◌^◌, ◌≤◌, List, ◌++◌, length, drop, ap, ap₂, ◌∙◌, append-nil, drop_of_length-le, arith}
use Rattle.blocks.specs.Blocks.{block, bytes, check_from, check_word, step, window}
use Rattle.image.proofs.Blocks.{window_bytes, window-bytes-length, window_check}
use Rattle.laws.proofs.Parts.{put_more}
use Rattle.laws.specs.Lists.{each}
use Rattle.words.specs.Words.{at}
use borrow.Rule.Slice.PartMut.{mid_of, put_mid}

-- i words of block b are written
pub record Filled (index : List ℕ) (b : ℕ) (part₀ part : List ℕ) (s i : ℕ) : Type 0 where
  pub long : length part ≡ length part₀
  pub sum : s ≡ check_from ((b + 1) % 2 ^ 32) (window index (127 * b) i)
  pub wrote : part ≡ each bytes (window index (127 * b) i) ++ drop (4 * i) part₀

-- one word more: x is the word, r the check one step further, and the part comes back from behind the 4 i bytes
pub filled_more : (index part₀ part ys : List ℕ) (b s i x r : ℕ) → Filled index b part₀ part s i → x ≡ at index (127 * b + i) → r ≡ step s x
    → 4 * i ≤ length part → ys ≡ bytes x ++ drop 4 (mid_of (4 * i) (length part - 4 * i) part) → length (put_mid (4 * i) (length part - 4 * i) part ys) ≡ length part
    → Filled index b part₀ (put_mid (4 * i) (length part - 4 * i) part ys) r (i + 1)
filled_more index part₀ part ys b s i x r F word more fits stored kept =
    let next : 4 * (i + 1) ≡ 4 * i + 4 = omega arith in
    record {
      long = kept ∙ F.long;
      sum = window_check index (127 * b) _ _ _ _ _ F.sum word more;
      wrote =
          put_more (each bytes (window index (127 * b) i)) (bytes x) part₀ part ys (4 * i) 4 (window-bytes-length index (127 * b) i) fits F.wrote stored
          ∙ rw (window_bytes index (127 * b) i, next, word);
    }

-- the check word behind 127 words makes the block
pub block-done : (index part₀ part last : List ℕ) (b s i : ℕ) → Filled index b part₀ part s i → i ≡ 127 → length part₀ ≡ 512
    → last ≡ bytes s ++ drop 4 (mid_of 508 (length part - 508) part) → put_mid 508 (length part - 508) part last ≡ block index b
unfolding block check_word
block-done index part₀ part last b s i F k long e =
    let ws : List ℕ = window index (127 * b) 127 in
    let sum : s ≡ check_word b ws = F.sum ∙ ap (λ (j : ℕ). check_from ((b + 1) % 2 ^ 32) (window index (127 * b) j)) k in
    let wrote : part ≡ each bytes ws ++ drop 508 part₀ =
    F.wrote ∙ ap (λ (j : ℕ). each bytes (window index (127 * b) j) ++ drop (4 * j) part₀) k in
    put_more (each bytes ws) (bytes s) part₀ part last 508 4 (window-bytes-length index (127 * b) 127) (omega (arith, F.long)) wrote e
    ∙ ap₂ (λ (x : ℕ) (t : List ℕ). (each bytes ws ++ bytes x) ++ t) sum (drop_of_length-le part₀ {i = 512} (omega arith))
    ∙ append-nil (each bytes ws ++ bytes (check_word b ws))
