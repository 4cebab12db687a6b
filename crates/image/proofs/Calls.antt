-- The ends of writing: what each return of the code meets of its contract. Assumes nothing.
use Prim.Native.Nat.{◌*◌, ◌<◌, ◌≤◌, ℕ}
use Rattle.blocks.specs.Blocks.{blocks_for_lem}
use Rattle.image.specs.Calls.{Writes}
use Rattle.image.specs.Image.{image, said_write}
use Rattle.limits.specs.Said.{fault, said}
use Rattle.words.specs.Words.{words_of_lem, words_ok_lem}
use borrow.Author.Tests.{le-ltb, lt-ltb}
use lib.Dec.{ltb}
use lib.ListN.{drop, length}
use mathlib.Core.Bool.{Bool, false, not, true}
use mathlib.Core.List.{List, ◌++◌}
use mathlib.Core.Path.{◌≡◌, ap₂, refl, sym}

module _ (w before : List ℕ) where
  -- how many bytes the image has
  abbrev size : ℕ
  size = 512 * blocks_for_lem (words_of_lem w)

  -- the number by the two tests: the words, and whether the room is short
  abbrev number : Bool → Bool → ℕ
  number a s = (said (fault 16 (not a) ++ fault 5 s)).0

  -- the number that the call gives, by what the two tests say
  number_is : (a s : Bool) → words_ok_lem w ≡ a → ltb (length before) size ≡ s → number a s ≡ (said_write w (length before)).0
  unfolding said_write
  number_is a s e f = ap₂ number (sym e) (sym f)

  -- the words are no index: 16, and nothing is written
  pub writes-sixteen : words_ok_lem w ≡ false → Writes w before before 16 0
  writes-sixteen e = record { said = number_is false (ltb (length before) size) e refl; counted = refl; lent = refl }

  module _ (e : words_ok_lem w ≡ true) where
    -- the room is short: 5, and nothing is written
    pub writes-five : length before < size → Writes w before before 5 0
    writes-five h = record { said = number_is true true e (lt-ltb (length before) size h); counted = refl; lent = refl }

    -- else 0, and the image is written to the room's front
    pub writes-done : (after : List ℕ) (blocks : ℕ) → size ≤ length before → blocks ≡ blocks_for_lem (words_of_lem w)
        → after ≡ image w ++ drop size before → Writes w before after 0 blocks
    writes-done after blocks h b a = record { said = number_is true false e (le-ltb (length before) size h); counted = b; lent = a }
