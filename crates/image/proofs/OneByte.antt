-- One changed byte of an image whose blocks are all good: the fault that is found names its block. Assumes nothing.
use Prim.Native.Nat.{◌%◌, ◌*◌, ◌+◌, ◌/◌, ◌<◌, suc, zero, ℕ}
use Rattle.blocks.proofs.Places.{word_cong}
use Rattle.blocks.specs.Blocks.{block_good_lem, check_word, word_at}
use Rattle.image.proofs.Found.{one_word, same-words, wrong_first}
use Rattle.image.specs.Below.{Below}
use Rattle.image.specs.Changed.{Changed, block_word}
use Rattle.image.specs.Image.{image_faults}
use Rattle.limits.specs.Said.{said}
use Rattle.words.specs.Words.{at}
use borrow.Author.Tests.{eqb-false, eqb-true}
use lib.Dec.{eqb}
use lib.ListN.{length, length-set, set}
use lib.Seq.{get_or-set_other, get_or-set_same}
use mathlib.Core.Bool.{Bool, false, true}
use mathlib.Core.List.{List}
use mathlib.Core.Path.{◌∙◌, ◌≡◌, ap, ap₂, refl, sym}
use native.Mathlib.Omega.{arith}

-- a block whose 128 words are the same is as good
pub block_same : (i i' : List ℕ) (b : ℕ) → ((j : ℕ) → j < 128 → block_word i b j ≡ block_word i' b j)
    → block_good_lem i b ≡ block_good_lem i' b
unfolding block_good_lem
block_same i i' b f =
    ap₂ eqb (ap (check_word b) (same-words i i' (512 * b) (512 * b) 127 (λ j h. f j (omega arith)))) (f 127 (omega arith))

-- byte p is changed to v
module _ (i : List ℕ) (p v : ℕ) where
  -- the image after the change
  abbrev i' : List ℕ
  i' = set i p v

  -- every other byte is as it was
  other : (q : ℕ) → (q ≡ p → ⊥) → at i' q ≡ at i q
  other q h = get_or-set_other i p q v 0 h

  -- every word but the byte's own is as it was
  words_same : (b j : ℕ) → (512 * b + 4 * j ≡ p / 4 * 4 → ⊥) → block_word i b j ≡ block_word i' b j
  words_same b j h = word_cong i i' (512 * b + 4 * j) (512 * b + 4 * j) (λ d l. sym (other (512 * b + 4 * j + d) (λ e. h (omega arith))))

  module _ (there : p < length i) where
    -- byte p is v
    new : (q : ℕ) → q ≡ p → at i' q ≡ v
    new q e = ap (at i') e ∙ get_or-set_same i p v 0 there

    -- a word that has byte p as its byte r, and is as it was: the byte is too
    word-differs : (r q : ℕ) → q + r ≡ p → r < 4 → word_at i q ≡ word_at i' q → at i p ≡ v
    unfolding word_at
    word-differs zero q e h s =
        let m : q ≡ p = omega arith in
        omega (arith, new q m, ap (at i) m, other (q + 1) (λ n. omega arith), other (q + 2) (λ n. omega arith), other (q + 3) (λ n. omega arith))
    word-differs (suc zero) q e h s =
        let m : q + 1 ≡ p = omega arith in
        omega (arith, other q (λ n. omega arith), new (q + 1) m, ap (at i) m, other (q + 2) (λ n. omega arith), other (q + 3) (λ n. omega arith))
    word-differs (suc (suc zero)) q e h s =
        let m : q + 2 ≡ p = omega arith in
        omega (arith, other q (λ n. omega arith), other (q + 1) (λ n. omega arith), new (q + 2) m, ap (at i) m, other (q + 3) (λ n. omega arith))
    word-differs (suc (suc (suc zero))) q e h s =
        let m : q + 3 ≡ p = omega arith in
        omega (arith, other q (λ n. omega arith), other (q + 1) (λ n. omega arith), other (q + 2) (λ n. omega arith), new (q + 3) m, ap (at i) m)
    word-differs (suc (suc (suc (suc r)))) q e h s = absurd (omega arith)

    -- where the byte differs, just its own word differs in its block
    changed : (at i p ≡ v → ⊥) → Changed i i' (p / 512) (p % 512 / 4)
    changed differs =
        record {
          inside = omega arith;
          same = λ j h n. words_same (p / 512) j (λ e. n (omega arith));
          differs = λ e. differs (word-differs (p % 4) (512 * (p / 512) + 4 * (p % 512 / 4)) (omega arith) (omega arith) e);
        }

    -- bytes stay bytes
    bytes-still : v < 256 → Below 256 i → Below 256 i'
    bytes-still small h q = go (eqb q p) refl
      where
        go : (t : Bool) → eqb q p ≡ t → at i' q < 256
        go true e = rw (new q (eqb-true q p e)) small
        go false e = rw (other q (eqb-false q p e)) (h q)

-- ONE CHANGED BYTE IS FOUND: the first fault is 15, and names the byte's block
pub one_byte-said : (i : List ℕ) (p v : ℕ) → Below 256 i → v < 256 → length i % 512 ≡ 0 → p < length i → (at i p ≡ v → ⊥)
    → ((b : ℕ) → b < length i / 512 → block_good_lem i b ≡ true) → said (image_faults (set i p v)) ≡ (15, p / 512, 0)
one_byte-said i p v bytes small whole there differs good =
    let l : length (set i p v) ≡ length i = length-set i p v in
    wrong_first (set i p v) (p / 512) (rw l whole) (omega arith)
    (one_word i (set i p v) (p / 512) (p % 512 / 4) bytes (bytes-still i p v there small bytes) (changed i p v there differs)
    (good (p / 512) (omega arith)))
    (λ a h. sym (block_same i (set i p v) a (λ j g. words_same i p v a j (λ e. omega arith))) ∙ good a (omega arith))
