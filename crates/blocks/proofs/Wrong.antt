-- The blocks whose check word is wrong: the lowest of them is the first that a search from block 0 on meets. Assumes nothing.
use Rattle.std.proofs.Common.{◌≡◌, ℕ, zero, suc, ◌+◌, ◌<◌, ◌≤◌, Bool, true, false, cond, not, List, [], ◌∷◌, None, Some, sym, refl, ap, ◌∙◌, subst, true≢false, zero-add, arith}
use Rattle.blocks.specs.Blocks.{block_good_lem}
use Rattle.blocks.specs.Lowest.{lowest, wrong_blocks}
use Rattle.laws.proofs.First.{first-empty, first-kept}
use Rattle.laws.specs.First.{First}
use Rattle.laws.specs.Lists.{head, keep, range, rest}

-- ---- any test: where number b of a range passes, some are kept, and the first of them is no greater
kept-below : (f : ℕ → Bool) (b k a : ℕ) → a ≤ b → b < a + k → f b ≡ true
    → (keep f (range a k) ≡ head (keep f (range a k)) ∷ rest (keep f (range a k))) × (head (keep f (range a k)) ≤ b)
kept-below f b zero a l h t = absurd (omega arith)
kept-below f b (suc k) a l h t =
    go (f a) refl
    (λ e.
    let other : a ≡ b → ⊥ = λ q. true≢false (sym t ∙ ap f (sym q) ∙ e) in
    kept-below f b k (suc a) (omega arith) (omega arith) t)
  where
    later : List ℕ
    later = keep f (range (suc a) k)

    go : (s : Bool) → f a ≡ s → (f a ≡ false → (later ≡ head later ∷ rest later) × (head later ≤ b))
        → (cond s (a ∷ later) later ≡ head (cond s (a ∷ later) later) ∷ rest (cond s (a ∷ later) later)) × (head (cond s (a ∷ later) later) ≤ b)
    go true e ih = (refl, l)
    go false e ih = ih e

-- ---- the n blocks of an image
-- block b's check word is wrong
abbrev pub wrong_at : List ℕ → ℕ → Bool
wrong_at i b = not (block_good_lem i b)

module _ (i : List ℕ) (n : ℕ) where
  -- the first wrong block that a search meets is the lowest
  pub lowest-is : (b : ℕ) → b < n → First (wrong_at i) 0 n b → lowest (wrong_blocks i 0 n) ≡ Some b
  lowest-is b h F = ap lowest (first-kept (wrong_at i) n 0 n b (zero-add n) h F)

  -- where none below n is wrong, there is none
  pub lowest-none : (r : ℕ) → r ≡ n → First (wrong_at i) 0 r r → lowest (wrong_blocks i 0 n) ≡ None
  lowest-none r e F = ap lowest (first-empty (wrong_at i) 0 n (subst (λ (k : ℕ). First (wrong_at i) 0 k k) (e ∙ sym (zero-add n)) F))

  -- where block b is wrong, there is a lowest wrong block, which is no higher
  pub lowest_le : (b : ℕ) → b < n → block_good_lem i b ≡ false
      → (wrong_blocks i 0 n ≡ head (wrong_blocks i 0 n) ∷ rest (wrong_blocks i 0 n)) × (head (wrong_blocks i 0 n) ≤ b)
  lowest_le b h wrong = kept-below (wrong_at i) b n 0 (omega arith) (omega arith) (ap not wrong)

-- none was found: no block is wrong
pub wrong-none : (bs : List ℕ) → lowest bs ≡ None → bs ≡ []
wrong-none [] e = refl
wrong-none (b ∷ bs) e = (cc)

-- one was found: it is the first of the list
pub wrong_some : (bs : List ℕ) (b : ℕ) → lowest bs ≡ Some b → bs ≡ b ∷ rest bs
wrong_some [] b e = (cc)
wrong_some (a ∷ bs) b e = (cc)
