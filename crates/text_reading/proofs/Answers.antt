-- What the reading answers, one law for each return of the code. Assumes nothing.
use Prim.Native.Nat.{◌<◌, ◌≤◌, ℕ}
use Rattle.laws.proofs.Tests.{and_l, and_r, holds, is_true}
use Rattle.limits.proofs.Ranges.{within_both}
use Rattle.limits.specs.Limits.{within}
use Rattle.text_reading.specs.Calls.{Reads, said_read_lem}
use Rattle.text_reading.specs.Reading.{behind, ends, how_many, numbers, readable}
use Rattle.text_reading.specs.declared.Place.TheVariants.{Start}
use borrow.Author.Tests.{le-ltb, lt-ltb}
use lib.ListN.{drop, length}
use mathlib.Core.Bool.{Bool, ◌&&◌, cond, false, true}
use mathlib.Core.List.{List, ◌++◌}
use mathlib.Core.Path.{◌≡◌, refl}
use native.Mathlib.Omega.{arith}

module _ (t : List ℕ) where
  -- ---- the count
  -- a text that ends where none may counts as none
  pub none-counted : ends (behind Start t) ≡ false → 0 ≡ how_many t
  unfolding how_many readable
  none-counted e = rw e

  -- so does one of too few numbers or too many
  pub not-counted : within 3 1_027 (length (numbers t)) ≡ false → 0 ≡ how_many t
  unfolding how_many readable
  not-counted e = go (ends (behind Start t))
    where
      go : (b : Bool) → 0 ≡ cond (b && within 3 1_027 (length (numbers t))) (length (numbers t)) 0
      go true = rw e
      go false = refl

  -- any other counts as its numbers
  pub all-counted : ends (behind Start t) ≡ true → within 3 1_027 (length (numbers t)) ≡ true → length (numbers t) ≡ how_many t
  unfolding how_many readable
  all-counted e q = rw (e, q)

  -- ---- what a count says of the text
  -- a readable text has 3 to 1,027 numbers
  pub read_some : readable t ≡ true → (3 ≤ length (numbers t)) × (length (numbers t) ≤ 1_027)
  unfolding readable
  read_some e =
      within_both 3 1_027 (length (numbers t))
      (is_true _ (and_r (ends (behind Start t)) (within 3 1_027 (length (numbers t))) (holds (readable t) e)))

  -- and it ends where a text may
  pub ends-well : readable t ≡ true → ends (behind Start t) ≡ true
  unfolding readable
  ends-well e = is_true _ (and_l (ends (behind Start t)) (within 3 1_027 (length (numbers t))) (holds (readable t) e))

  -- a text that counts as none is not readable
  pub unread : how_many t ≡ 0 → readable t ≡ false
  unfolding how_many
  unread e = go (readable t) refl e
    where
      go : (b : Bool) → readable t ≡ b → cond b (length (numbers t)) 0 ≡ 0 → b ≡ false
      go true q z = absurd (omega (arith, (read_some q).0))
      go false q z = refl

  -- and one that counts as some is, with that many numbers
  pub read : {k : ℕ} → k ≡ how_many t → (k ≡ 0 → ⊥) → (readable t ≡ true) × (k ≡ length (numbers t))
  unfolding how_many
  read q n = go (readable t) q n
    where
      go : {k : ℕ} (b : Bool) → k ≡ cond b (length (numbers t)) 0 → (k ≡ 0 → ⊥) → (b ≡ true) × (k ≡ length (numbers t))
      go true q n = (refl, q)
      go false q n = absurd (n q)

  -- ---- the three answers
  -- 18 for a text that is not readable
  said-text : (n : ℕ) → readable t ≡ false → 18 ≡ said_read_lem t n
  unfolding said_read_lem
  said-text n e = rw e

  -- 5 where the room is too short
  said-room : (n : ℕ) → readable t ≡ true → n < length (numbers t) → 5 ≡ said_read_lem t n
  unfolding said_read_lem
  said-room n e h = rw (e, lt-ltb n (length (numbers t)) h)

  -- 0 where it is not
  said-done : (n : ℕ) → readable t ≡ true → length (numbers t) ≤ n → 0 ≡ said_read_lem t n
  unfolding said_read_lem
  said-done n e h = rw (e, le-ltb n (length (numbers t)) h)

  module _ (room : List ℕ) where
    -- an unreadable text changes nothing
    pub refused-text : readable t ≡ false → Reads t room room 18 0
    refused-text e = record { said = said-text (length room) e; counted = refl; filled = refl }

    -- nor does one whose numbers find no room
    pub refused-room : readable t ≡ true → length room < length (numbers t) → Reads t room room 5 0
    refused-room e h = record { said = said-room (length room) e h; counted = refl; filled = refl }

    -- any other puts its numbers at the front of the room
    pub done : (room' : List ℕ) (count : ℕ) → readable t ≡ true → length (numbers t) ≤ length room → count ≡ length (numbers t)
        → room' ≡ numbers t ++ drop (length (numbers t)) room → Reads t room room' 0 count
    done room' count e h q w = record { said = said-done (length room) e h; counted = q; filled = w }
