-- The number that a word says, one digit a turn, and the decimal text of a number says it. Assumes nothing.
use Prim.Native.Nat.{◌*◌, ◌+◌, ◌-◌, ◌<◌, ◌≤◌, min, ℕ}
use Rattle.asking.specs.Worth.{behind, from, worth}
use Rattle.std.specs.Char.{IsAsciiDigit, IsNotAsciiDigit}
use Rattle.limits.proofs.Ranges.{both-within}
use Rattle.limits.specs.Limits.{within}
use Rattle.text_reading.specs.Text.{Decimal, digit, followed}
use lib.ListN.{drop, drop_of_length-le, get_or, length, length-append}
use lib.Seq.{drop-cons}
use borrow.Author.Tests.{lt-leb}
use lib.Dec.{leb}
use mathlib.Core.Bool.{Bool, ◌&&◌, cond, false, true}
use mathlib.Core.List.{List, [], ◌++◌, ◌∷◌, append_assoc, append-nil}
use Rattle.std.proofs.Common.{inl, inr}
use mathlib.Core.Path.{◌∙◌, ◌≡◌, ap, refl, sym}
use native.Mathlib.Numerals.{add-one}
use native.Mathlib.Omega.{arith}

-- ---- one byte
module _ (value b : ℕ) where
  -- what is no digit says no number
  pub behind-other : IsNotAsciiDigit b → 10_000_000 ≡ behind value b
  unfolding behind
  behind-other h = rw (outside h)
    where
      outside : IsNotAsciiDigit b → within 48 57 b ≡ false
      outside (inl l) = rw (lt-leb 48 b l)
      outside (inr l) = go (leb 48 b) (lt-leb b 57 l)
        where
          go : (low : Bool) → leb b 57 ≡ false → (low && leb b 57) ≡ false
          go true e = e
          go false e = refl

  module _ (h : IsAsciiDigit b) {d : ℕ} (e : d ≡ b - 48) where
    -- nor does a digit that makes 10,000,000 or more
    pub behind-most : 10_000_000 ≤ 10 * value + d → 10_000_000 ≡ behind value b
    unfolding behind
    behind-most l = rw (both-within 48 57 b h.0 h.1, ← e) (omega arith)

    -- any other digit goes behind the value
    pub behind-digit : 10 * value + d < 10_000_000 → 10 * value + d ≡ behind value b
    unfolding behind
    behind-digit l = rw (both-within 48 57 b h.0 h.1, ← e) (omega arith)

-- ---- from place i on
module _ (value : ℕ) (t : List ℕ) (i : ℕ) where
  -- one byte
  from_next : i < length t → from value (drop i t) ≡ from (behind value (get_or t i 0)) (drop (i + 1) t)
  unfolding from
  from_next h = rw (drop-cons t i 0 h, add-one)

  -- none
  from_end : length t ≤ i → from value (drop i t) ≡ value
  unfolding from
  from_end h = rw (drop_of_length-le t h)

-- from 10,000,000 on every word leads there
from-most : (t : List ℕ) → 10_000_000 ≡ from 10_000_000 t
unfolding from behind
from-most [] = refl
from-most (b ∷ t) = rw (stays (within 48 57 b)) (from-most t)
  where
    stays : (d : Bool) → cond d (min (10 * 10_000_000 + (b - 48)) 10_000_000) 10_000_000 ≡ 10_000_000
    stays true = omega arith
    stays false = refl

-- a word with a byte says what its bytes lead to
some-worth : (t : List ℕ) → 0 < length t → from 0 t ≡ worth t
some-worth [] n = absurd (omega arith)
some-worth (b ∷ t) n = refl

-- ---- a word, one byte a turn: i bytes are read, and what is left leads to the same value
module _ (t : List ℕ) (value i : ℕ) (leads : from value (drop i t) ≡ from 0 t) where
  module _ (l : i < length t) where
    -- one more
    pub counted_next : (value' : ℕ) → value' ≡ behind value (get_or t i 0) → from value' (drop (i + 1) t) ≡ from 0 t
    counted_next value' e = rw e (sym (from_next value t i l) ∙ leads)

    -- none that is a digit, or none that leaves the number small
    pub counted_none : 10_000_000 ≡ behind value (get_or t i 0) → 10_000_000 ≡ worth t
    counted_none e = from-most (drop (i + 1) t) ∙ counted_next 10_000_000 e ∙ some-worth t (omega arith)

  -- behind the last
  pub counted-end : length t ≤ i → 0 < length t → value ≡ worth t
  counted-end l n = sym (from_end value t i l) ∙ leads ∙ some-worth t n

-- no byte says no number
pub none-worth : (t : List ℕ) → length t ≡ 0 → 10_000_000 ≡ worth t
none-worth [] e = refl
none-worth (b ∷ t) e = absurd (omega arith)

-- ---- the decimal text of a number
-- one digit
from_digit : (value d : ℕ) (t : List ℕ) → d < 10 → 10 * value + d < 10_000_000 → from value ((48 + d) ∷ t) ≡ from (10 * value + d) t
unfolding from
from_digit value d t h l =
    let e : d ≡ 48 + d - 48 = omega arith in
    ap (λ (v : ℕ). from v t) (sym (behind-digit value (48 + d) (omega arith, omega arith) e l))

-- all of them
from_decimal : {n : ℕ} {ds : List ℕ} → Decimal n ds → n < 10_000_000 → (t : List ℕ) → from 0 (ds ++ t) ≡ from n t
from_decimal (digit {d} h) l t = from_digit 0 d t h (omega arith) ∙ ap (λ (k : ℕ). from k t) (omega arith)
from_decimal (followed {n} {d} {ds} x s h) l t =
    rw append_assoc (from_decimal x (omega arith) ((48 + d) ∷ t) ∙ from_digit n d t h l)

-- there is one at least
some_digit : {n : ℕ} {ds : List ℕ} → Decimal n ds → 1 ≤ length ds
some_digit (digit h) = omega arith
some_digit (followed x s h) = simp length-append (omega arith)

-- THE DECIMAL TEXT OF A NUMBER BELOW 10,000,000 SAYS IT
pub worth_decimal : {n : ℕ} {ds : List ℕ} → Decimal n ds → n < 10_000_000 → worth ds ≡ n
unfolding from
worth_decimal {n} {ds} x l = some ds x ∙ (rw append-nil at (from_decimal x l []))
  where
    some : {n : ℕ} (ds : List ℕ) → Decimal n ds → worth ds ≡ from 0 ds
    some [] x = absurd (omega (arith, some_digit x))
    some (b ∷ t) x = refl
