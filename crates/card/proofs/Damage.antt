-- A damaged card, read over a table that 1, 3 and 4 do not meet: the fault of the image is what the call gives. Assumes nothing.
use Prim.Native.Nat.{◌%◌, ◌/◌, ◌<◌, ◌^◌, ◌≤◌, ℕ}
use Rattle.blocks.proofs.Wrong.{lowest_le}
use Rattle.blocks.specs.Blocks.{block_good_lem}
use Rattle.card_refusals.proofs.Refusals.{said-image}
use Rattle.card.proofs.Theorems.{read_refused}
use Rattle.card_refusals.specs.Tests.{said_read_lem}
use Rattle.card.specs.Calls.{Reads}
use Rattle.image.proofs.Found.{one_block, one_word, wrong_first, wrong-said}
use Rattle.image.proofs.OneByte.{one_byte-said}
use Rattle.image.specs.Below.{Below}
use Rattle.image.specs.Changed.{Changed, Moved}
use Rattle.image.specs.Image.{image_faults}
use Rattle.limits.proofs.Numbers.{Sized}
use Rattle.limits.specs.Said.{Said, said}
use Rattle.words.specs.Words.{at}
use lib.ListN.{length, set}
use mathlib.Core.Bool.{false, true}
use mathlib.Core.List.{List}
use mathlib.Core.Path.{◌∙◌, ◌≡◌, ap}
use native.Mathlib.Omega.{arith}

module _ (T : List ℕ) (c : ℕ) (fine : Sized (length T) c) where
  -- a fault that the image has with a place is what reading says
  found-said : (i : List ℕ) (room p : ℕ) → said (image_faults i) ≡ (15, p, 0) → said_read_lem T c i room ≡ (15, p, 0)
  found-said i room p q = said-image T c i room fine (λ z. omega (arith, ap (λ (t : Said). t.0) q)) ∙ q

  -- ---- an image of whole blocks whose block b is wrong
  module _ (i : List ℕ) (b : ℕ) (whole : length i % 512 ≡ 0) (inside : b < length i / 512) (wrong : block_good_lem i b ≡ false) where
    -- WRONG-READ: IT IS REFUSED WITH 15, THE BLOCK NAMED IS NO HIGHER, AND NOTHING IS READ
    pub wrong-read : {before after : List ℕ} {number place words : ℕ} → Reads T c i before after number place words
        → (number ≡ 15) × (place ≤ b) × (words ≡ 0) × (after ≡ before)
    wrong-read {before} r =
        let q = found-said i (length before) _ (wrong-said i b whole inside wrong) in
        let e = r.said ∙ ap (λ (t : Said). t.0) q in
        let d = read_refused r (λ z. omega arith) in
        (e, rw (r.placed ∙ ap (λ (t : Said). t.1) q) (lowest_le i (length i / 512) b inside wrong).1, d.0, d.1)

    -- WRONG-NAMED: WHERE EVERY LOWER BLOCK IS GOOD, IT IS THE BLOCK NAMED
    pub wrong-named : ((a : ℕ) → a < b → block_good_lem i a ≡ true) → (room : ℕ) → said_read_lem T c i room ≡ (15, b, 0)
    wrong-named f room = found-said i room b (wrong_first i b whole inside wrong f)

  -- ---- a reading of i', which was i
  module _ (i i' : List ℕ) (b : ℕ) (whole : length i' % 512 ≡ 0) (inside : b < length i' / 512) {before after : List ℕ}
      {number place words : ℕ} (r : Reads T c i' before after number place words) where
    -- ONE-WORD-READ: ONE CHANGED WORD OF A GOOD BLOCK, THE CHECK WORD INCLUDED: 15, AND NOTHING IS READ
    pub one-word-read : (k : ℕ) → Below 256 i → Below 256 i' → Changed i i' b k → block_good_lem i b ≡ true
        → (number ≡ 15) × (place ≤ b) × (words ≡ 0) × (after ≡ before)
    one-word-read k bytes bytes' ch good = wrong-read i' b whole inside (one_word i i' b k bytes bytes' ch good) r

    -- ONE-BLOCK-READ: A GOOD BLOCK AT ANOTHER BLOCK'S PLACE: THE SAME
    pub one-block-read : (a : ℕ) → a < 2 ^ 32 → b < 2 ^ 32 → Moved i i' a b → block_good_lem i a ≡ true
        → (number ≡ 15) × (place ≤ b) × (words ≡ 0) × (after ≡ before)
    one-block-read a ha hb mv good = wrong-read i' b whole inside (one_block i i' a b ha hb mv good) r

  -- ONE-BYTE: ONE CHANGED BYTE OF AN IMAGE WHOSE BLOCKS ARE ALL GOOD: READING SAYS 15, AND NAMES THE BYTE'S BLOCK
  pub one_byte : (i : List ℕ) (p v : ℕ) → Below 256 i → v < 256 → length i % 512 ≡ 0 → p < length i → (at i p ≡ v → ⊥)
      → ((b : ℕ) → b < length i / 512 → block_good_lem i b ≡ true) → (room : ℕ) → said_read_lem T c (set i p v) room ≡ (15, p / 512, 0)
  one_byte i p v bytes small whole there differs good room =
      found-said (set i p v) room (p / 512) (one_byte-said i p v bytes small whole there differs good)
