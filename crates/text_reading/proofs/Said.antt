-- What each number says of the text and the room. Assumes nothing.
use Prim.Native.Nat.{◌<◌, ◌≤◌, ℕ}
use Rattle.text_reading.specs.Calls.{said_read_lem}
use Rattle.text_reading.specs.Reading.{numbers, readable}
use borrow.Author.Tests.{ltb-false, ltb-true}
use lib.Dec.{ltb}
use lib.ListN.{length}
use mathlib.Core.Bool.{Bool, cond, false, true}
use mathlib.Core.List.{List}
use mathlib.Core.Path.{◌≡◌, refl}
use native.Mathlib.Omega.{arith}

-- what 0 says of the text and the room
pub zero-said : (t : List ℕ) (n : ℕ) → said_read_lem t n ≡ 0 → (readable t ≡ true) × (length (numbers t) ≤ n)
unfolding said_read_lem
zero-said t n e = go (readable t) (ltb n (length (numbers t))) refl e
  where
    go : (b s : Bool) → ltb n (length (numbers t)) ≡ s → ◌≡◌ {A = ℕ} (cond b (cond s 5 0) 18) 0 → (b ≡ true) × (length (numbers t) ≤ n)
    go true true q z = absurd (omega (arith, z))
    go true false q z = (refl, ltb-false n (length (numbers t)) q)
    go false s q z = absurd (omega (arith, z))

-- what 5 says of the text and the room
pub five-said : (t : List ℕ) (n : ℕ) → said_read_lem t n ≡ 5 → (readable t ≡ true) × (n < length (numbers t))
unfolding said_read_lem
five-said t n e = go (readable t) (ltb n (length (numbers t))) refl e
  where
    go : (b s : Bool) → ltb n (length (numbers t)) ≡ s → ◌≡◌ {A = ℕ} (cond b (cond s 5 0) 18) 5 → (b ≡ true) × (n < length (numbers t))
    go true true q z = (refl, ltb-true n (length (numbers t)) q)
    go true false q z = absurd (omega (arith, z))
    go false s q z = absurd (omega (arith, z))

-- what 18 says of the text
pub not-read : (t : List ℕ) (n : ℕ) → said_read_lem t n ≡ 18 → readable t ≡ false
unfolding said_read_lem
not-read t n e = go (readable t) (ltb n (length (numbers t))) e
  where
    go : (b s : Bool) → ◌≡◌ {A = ℕ} (cond b (cond s 5 0) 18) 18 → b ≡ false
    go true true z = absurd (omega (arith, z))
    go true false z = absurd (omega (arith, z))
    go false s z = refl
