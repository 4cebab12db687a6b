-- No second outcome meets the contract of writing. Assumes nothing.
use Prim.Native.Nat.{◌*◌, ℕ}
use Rattle.blocks.specs.Blocks.{blocks_for_lem}
use Rattle.image.specs.Calls.{Writes}
use Rattle.image.specs.Image.{image}
use Rattle.words.specs.Words.{words_of_lem}
use lib.Dec.{eqb}
use lib.ListN.{drop}
use mathlib.Core.Bool.{cond}
use mathlib.Core.List.{List, ◌++◌}
use mathlib.Core.Path.{◌∙◌, ◌≡◌, ap, sym}

-- WRITING: THE NUMBER, THE BLOCKS AND THE LENT BYTES ARE SETTLED
pub write-only : (w before a a' : List ℕ) (n n' b b' : ℕ) → Writes w before a n b → Writes w before a' n' b'
    → (n ≡ n') × (b ≡ b') × (a ≡ a')
write-only w before a a' n n' b b' x y =
    let e : n ≡ n' = x.said ∙ sym y.said in (
      e,
      x.counted ∙ ap (λ (k : ℕ). cond (eqb k 0) (blocks_for_lem (words_of_lem w)) 0) e ∙ sym y.counted,
      x.lent ∙ ap (λ (k : ℕ). cond (eqb k 0) (image w ++ drop (512 * blocks_for_lem (words_of_lem w)) before) before) e ∙ sym y.lent,
    )
