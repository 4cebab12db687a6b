-- Images that differ in one word, and blocks that stand at another block's place: 01, The image. Assumes nothing.
use Rattle.std.specs.Prelude.{◌*◌, ◌+◌, ◌<◌, ℕ, List, ◌≡◌}
use Rattle.blocks.specs.Blocks.{word_at}

-- word k of block b: 127 is the check word
abbrev pub block_word : List ℕ → ℕ → ℕ → ℕ
block_word i b k = word_at i (512 * b + 4 * k)

-- of the 128 words of block b, just word k differs
pub record Changed (i i' : List ℕ) (b k : ℕ) : Type 0 where
  pub inside : k < 128
  pub same : (j : ℕ) → j < 128 → (j ≡ k → ⊥) → block_word i b j ≡ block_word i' b j
  pub differs : block_word i b k ≡ block_word i' b k → ⊥

-- block a of i stands in i' as block b
pub record Moved (i i' : List ℕ) (a b : ℕ) : Type 0 where
  pub elsewhere : a ≡ b → ⊥
  pub same : (j : ℕ) → j < 128 → block_word i a j ≡ block_word i' b j
