-- A changed word, and a block at another block's place, are found. Assumes nothing.
use Prim.Native.Nat.{◌%◌, ◌*◌, ◌+◌, ◌/◌, ◌<◌, ◌^◌, suc, zero, ℕ}
use Rattle.blocks.proofs.Checks.{check_append, check_place, from_lt, step_state, step_word}
use Rattle.blocks.proofs.Wrong.{lowest-is, lowest_le, wrong_at, wrong_some}
use Rattle.blocks.specs.Blocks.{block_good_lem, check_from, check_word, step, word_at, words_at}
use Rattle.blocks.specs.Lowest.{wrong_blocks}
use Rattle.image.proofs.Refusals.{fifteen}
use Rattle.image.specs.Below.{Below}
use Rattle.image.specs.Changed.{Changed, Moved, block_word}
use Rattle.image.specs.Image.{image_faults}
use Rattle.laws.proofs.Tests.{is_true, refute}
use Rattle.laws.specs.First.{First}
use Rattle.laws.specs.Lists.{head}
use Rattle.limits.specs.Said.{said}
use borrow.Author.Tests.{eqb-true, leb-false, leb-true}
use lib.Dec.{leb}
use lib.ListN.{length}
use mathlib.Core.Bool.{Bool, false, not, true}
use mathlib.Core.List.{List, [], ◌++◌, ◌∷◌}
use mathlib.Core.Path.{◌∙◌, ◌≡◌, ap, ap₂, refl, sym}
use native.Mathlib.Nat.{not-suc-le-zero}
use native.Mathlib.Omega.{arith}

-- a test that cannot pass fails
refuse : (t : Bool) → (t ≡ true → ⊥) → t ≡ false
refuse t h = sym (refute t (λ p. h (is_true t p)))

-- ---- the words of two blocks
-- k words that agree one by one are the same list
pub same-words : (i i' : List ℕ) (p p' k : ℕ) → ((j : ℕ) → j < k → word_at i (p + 4 * j) ≡ word_at i' (p' + 4 * j))
    → words_at i p k ≡ words_at i' p' k
unfolding words_at
same-words i i' p p' zero f = refl
same-words i i' p p' (suc k) f =
    ap₂ (λ (l : List ℕ) (x : ℕ). l ++ (x ∷ [])) (same-words i i' p p' k (λ j h. f j (omega arith))) (f k (omega arith))

-- a word of four bytes fits 32 bits
word_lt : (i : List ℕ) (p : ℕ) → Below 256 i → word_at i p < 2 ^ 32
unfolding word_at
word_lt i p h = omega (arith, h p, h (p + 1), h (p + 2), h (p + 3))

-- the check of one word more is one step further
check_last : (i : List ℕ) (p k s : ℕ) → check_from s (words_at i p (suc k)) ≡ step (check_from s (words_at i p k)) (word_at i (p + 4 * k))
unfolding words_at check_from
check_last i p k s = check_append (words_at i p k) (word_at i (p + 4 * k) ∷ []) s

-- the words from byte p on of two images, which differ at word k; their checks start at s
module _ (i i' : List ℕ) (p k s : ℕ) (hs : s < 2 ^ 32) (bytes : Below 256 i) (bytes' : Below 256 i')
    (differs : word_at i (p + 4 * k) ≡ word_at i' (p + 4 * k) → ⊥) where
  -- word n of an image
  abbrev word : List ℕ → ℕ → ℕ
  word l n = word_at l (p + 4 * n)

  -- the check of its first n words
  abbrev check : List ℕ → ℕ → ℕ
  check l n = check_from s (words_at l p n)

  -- OF n WORDS JUST WORD k DIFFERS: THEIR CHECKS DIFFER
  check-differs : (n : ℕ) → k < n → ((j : ℕ) → j < n → (j ≡ k → ⊥) → word i j ≡ word i' j) → check i n ≡ check i' n → ⊥
  check-differs zero h f e = not-suc-le-zero h
  check-differs (suc n) h f e =
      go (leb n k) refl (λ q. check-differs n q (λ j g. f j (omega arith))) (sym (check_last i p n s) ∙ e ∙ check_last i' p n s)
    where
      -- the last word is the one that differs, or one before it is
      go : (b : Bool) → leb n k ≡ b → (k < n → check i n ≡ check i' n → ⊥)
          → step (check i n) (word i n) ≡ step (check i' n) (word i' n) → ⊥
      go true q ih e =
          let m : n ≡ k = omega (arith, leb-true n k q) in
          let w = same-words i i' p p n (λ j g. f j (omega arith) (λ r. omega arith)) in
          differs (rw m at (step_word (check i n) (word i n) (word i' n) (word_lt i (p + 4 * n) bytes) (word_lt i' (p + 4 * n) bytes')
          (e ∙ ap (λ (l : List ℕ). step (check_from s l) (word i' n)) (sym w))))
      go false q ih e =
          let w = f n (omega arith) (λ r. omega (arith, leb-false n k q)) in
          ih (leb-false n k q) (step_state (check i n) (check i' n) (word i n) (from_lt (words_at i p n) s hs) (from_lt (words_at i' p n) s hs)
          (e ∙ ap (step (check i' n)) (sym w)))

-- ---- the two theorems
-- a good block's last word is the check word of its 127 others
good_is : (i : List ℕ) (b : ℕ) → block_good_lem i b ≡ true → check_word b (words_at i (512 * b) 127) ≡ block_word i b 127
unfolding block_good_lem
good_is i b e = eqb-true (check_word b (words_at i (512 * b) 127)) (word_at i (512 * b + 508)) e

-- ONE CHANGED WORD, THE CHECK WORD INCLUDED, IS FOUND: where just one word of block b differs, the block is good in one image at most
pub one_word : (i i' : List ℕ) (b k : ℕ) → Below 256 i → Below 256 i' → Changed i i' b k
    → block_good_lem i b ≡ true → block_good_lem i' b ≡ false
unfolding check_word
one_word i i' b k bytes bytes' ch good =
    refuse (block_good_lem i' b) (λ good'. go (leb 127 k) refl (good_is i b good) (good_is i' b good'))
  where
    -- the changed word is the check word, or one of the others
    go : (t : Bool) → leb 127 k ≡ t → check_word b (words_at i (512 * b) 127) ≡ block_word i b 127
        → check_word b (words_at i' (512 * b) 127) ≡ block_word i' b 127 → ⊥
    go true q e e' =
        let m : k ≡ 127 = omega (arith, leb-true 127 k q, ch.inside) in
        let w = same-words i i' (512 * b) (512 * b) 127 (λ j g. ch.same j (omega arith) (λ r. omega arith)) in
        ch.differs (rw m (sym e ∙ ap (check_word b) w ∙ e'))
    go false q e e' =
        let g = leb-false 127 k q in
        check-differs i i' (512 * b) k ((b + 1) % 2 ^ 32) (omega arith) bytes bytes' ch.differs 127 g (λ j h. ch.same j (omega arith))
        (e ∙ ch.same 127 (omega arith) (λ r. omega arith) ∙ sym e')

-- A BLOCK AT ANOTHER BLOCK'S PLACE IS FOUND: the 128 words of a good block are no good block under another number
pub one_block : (i i' : List ℕ) (a b : ℕ) → a < 2 ^ 32 → b < 2 ^ 32 → Moved i i' a b
    → block_good_lem i a ≡ true → block_good_lem i' b ≡ false
one_block i i' a b ha hb mv good =
    refuse (block_good_lem i' b) (λ good'.
    let w = same-words i i' (512 * a) (512 * b) 127 (λ j h. mv.same j (omega arith)) in
    mv.elsewhere (check_place a b (words_at i (512 * a) 127) ha hb
    (good_is i a good ∙ mv.same 127 (omega arith) ∙ sym (good_is i' b good') ∙ ap (check_word b) (sym w))))

-- ---- an image of whole blocks whose block b is wrong
module _ (i : List ℕ) (b : ℕ) (whole : length i % 512 ≡ 0) (inside : b < length i / 512) (wrong : block_good_lem i b ≡ false) where
  -- ITS FIRST FAULT IS 15, AND NAMES THE LOWEST WRONG BLOCK
  pub wrong-said : said (image_faults i) ≡ (15, head (wrong_blocks i 0 (length i / 512)), 0)
  wrong-said = fifteen i (λ e. omega arith) whole _ (lowest_le i (length i / 512) b inside wrong).0

  -- WHERE EVERY LOWER BLOCK IS GOOD, IT IS THE BLOCK NAMED
  pub wrong_first : ((a : ℕ) → a < b → block_good_lem i a ≡ true) → said (image_faults i) ≡ (15, b, 0)
  wrong_first f =
      let F : First (wrong_at i) 0 (length i / 512) b =
      record { from = omega arith; to = omega arith; none = λ a _ h. ap not (f a h); here = λ _. ap not wrong } in
      fifteen i (λ e. omega arith) whole b (wrong_some (wrong_blocks i 0 (length i / 512)) b (lowest-is i (length i / 512) b inside F))
