-- How much writing gives back at most, and what its 0 says: 01, The image. Assumes nothing.
use Prim.Native.Nat.{◌*◌, ◌+◌, ◌≤◌, ℕ}
use Rattle.blocks.specs.Blocks.{blocks_for_lem}
use Rattle.image.proofs.Calls.{writes-sixteen}
use Rattle.image.proofs.Only.{write-only}
use Rattle.image.proofs.RoundTrip.{written_ok}
use Rattle.image.specs.Calls.{Writes}
use Rattle.limits.specs.Limits.{max_rows}
use Rattle.words.proofs.Headers.{words-whole}
use Rattle.words.proofs.InShape.{whole}
use Rattle.words.proofs.Strides.{words-few}
use Rattle.words.specs.Words.{words_of_lem, words_ok_lem}
use lib.Dec.{eqb}
use lib.ListN.{length}
use mathlib.Core.Bool.{Bool, cond, false, true}
use mathlib.Core.List.{List}
use mathlib.Core.Path.{◌≡◌, refl, sym}
use native.Mathlib.Omega.{arith}

-- the greatest index needs no more blocks than the most rows
blocks_few : (t : ℕ) → t ≤ 12 * max_rows + 8 → blocks_for_lem t ≤ max_rows
unfolding blocks_for_lem
blocks_few t h = omega arith

-- WRITING: no more blocks than the most rows, so that 32 bits hold their number
pub write_small : {w before after : List ℕ} {number blocks : ℕ} → Writes w before after number blocks → blocks ≤ max_rows
write_small {w} {before} {after} {number} {blocks} r = by-words (words_ok_lem w) refl
  where
    -- by whether the number is 0
    counted : (b : Bool) → blocks ≡ cond b (blocks_for_lem (words_of_lem w)) 0 → blocks_for_lem (words_of_lem w) ≤ max_rows → blocks ≤ max_rows
    counted true e h = omega arith
    counted false e h = omega arith

    -- by whether the words are an index
    by-words : (b : Bool) → words_ok_lem w ≡ b → blocks ≤ max_rows
    by-words true e =
        let W = whole w (words-whole w e).1 in
        counted (eqb number 0) r.counted (blocks_few (words_of_lem w) (omega (arith, W.rows, words-few w W)))
    by-words false e = omega (arith, (write-only w before after before number 16 blocks 0 r (writes-sixteen w before e)).1)

-- WRITING: 0 says that no word of the index is missing
pub write-whole : {w before after : List ℕ} {blocks : ℕ} → Writes w before after 0 blocks → words_of_lem w ≤ length w
write-whole {w} {before} r = (whole w (words-whole w (written_ok w (length before) (sym r.said))).1).words
