-- What one byte does to the reader's place: a space, a newline, a digit, or any other. Assumes nothing.
use Prim.Native.Nat.{◌*◌, ◌+◌, ◌-◌, ◌<◌, ◌≤◌, ℕ}
use Rattle.limits.proofs.Ranges.{both-within, within_both}
use Rattle.limits.specs.Limits.{within}
use Rattle.text_reading.specs.Reading.{begun, ended, ended_by, grown, onward, parting, stepped}
use Rattle.text_reading.specs.Text.{Parts, newline, space}
use Rattle.text_reading.specs.declared.Place.TheVariants.{Inside, Line, Lost, Start}
use Rattle.text_reading.specs.declared.Place.{Place}
use borrow.Author.Tests.{eqb-true, le-leb, leb-true, ne_eqb}
use lib.Dec.{eqb, leb}
use mathlib.Core.Bool.{Bool, ◌&&◌, cond, false, true}
use mathlib.Core.List.{[]}
use mathlib.Core.Logic.{◌⊎◌, inl, inr}
use mathlib.Core.Path.{◌≡◌, ap, refl, subst, sym}
use native.Mathlib.Omega.{arith}

-- the kinds of bytes
pub data Byte : ℕ → Type 0 where
  is_space : Byte 32
  is_newline : Byte 10
  is_digit : {d : ℕ} → d < 10 → Byte (48 + d)
  is_other : {b : ℕ} → eqb b 32 ≡ false → eqb b 10 ≡ false → within 48 57 b ≡ false → Byte b

-- each byte is of one kind
pub kind : (b : ℕ) → Byte b
kind b = go (eqb b 32) (eqb b 10) (within 48 57 b) refl refl refl
  where
    go : (s n d : Bool) → eqb b 32 ≡ s → eqb b 10 ≡ n → within 48 57 b ≡ d → Byte b
    go true n d p q r = subst Byte (sym (eqb-true b 32 p)) is_space
    go false true d p q r = subst Byte (sym (eqb-true b 10 q)) is_newline
    go false false true p q r =
        let both = within_both 48 57 b r in
        subst Byte {x = 48 + (b - 48)} (omega (arith, both.0)) (is_digit {d = b - 48} (omega (arith, both.1)))
    go false false false p q r = is_other p q r

-- where a number may start: at the front, and behind a space or a newline
pub data Opens : Place → Type 0 where
  at_start : Opens Start
  at_line : Opens Line

-- there a byte begins a number or loses the reader
pub open_step : {p : Place} (b : ℕ) → Opens p → stepped p b ≡ begun b
open_step b at_start = refl
open_step b at_line = refl

-- ---- a digit
module _ (d : ℕ) (h : d < 10) where
  -- it begins a number
  pub begun-digit : begun (48 + d) ≡ Inside d
  unfolding begun
  begun-digit = rw (both-within 48 57 (48 + d) (omega arith) (omega arith)) (ap Inside (omega arith))

  -- it goes behind the number that the reader is in
  pub onward-digit : (v : ℕ) → onward v (48 + d) ≡ grown v d
  unfolding onward
  onward-digit v =
      rw (
        ne_eqb (48 + d) 32 (λ (e : 48 + d ≡ 32). omega arith),
        ne_eqb (48 + d) 10 (λ (e : 48 + d ≡ 10). omega arith),
        both-within 48 57 (48 + d) (omega arith) (omega arith),
      )
      (ap (grown v) (omega arith))

  -- it ends no number
  pub digit-ends-none : (p : Place) → ended_by p (48 + d) ≡ []
  unfolding ended_by parting
  digit-ends-none p = rw (ne_eqb (48 + d) 32 (λ (e : 48 + d ≡ 32). omega arith), ne_eqb (48 + d) 10 (λ (e : 48 + d ≡ 10). omega arith))

-- behind a number other than 0 a digit makes a greater one, where that is not too great
pub grown-fits : (v d : ℕ) → 1 ≤ v → 10 * v + d ≤ 65_535 → grown v d ≡ Inside (10 * v + d)
unfolding grown
grown-fits v d p q = rw (le-leb 1 v p, le-leb (10 * v + d) 65_535 q)

-- a digit behind 0, and one that makes too great a number, lose the reader
pub grown_or_lost : (v d : ℕ) → ((1 ≤ v) × (10 * v + d ≤ 65_535)) ⊎ (grown v d ≡ Lost)
unfolding grown
grown_or_lost v d = go (leb 1 v) (leb (10 * v + d) 65_535) refl refl
  where
    go : (a b : Bool) → leb 1 v ≡ a → leb (10 * v + d) 65_535 ≡ b
        → ((1 ≤ v) × (10 * v + d ≤ 65_535)) ⊎ (cond (a && b) (Inside (10 * v + d)) Lost ≡ Lost)
    go true true p q = inl (leb-true 1 v p, leb-true (10 * v + d) 65_535 q)
    go true false p q = inr refl
    go false b p q = inr refl

-- ---- a space and a newline
-- where a number must start, they lose the reader
pub begun_parted : {b : ℕ} → Parts b → begun b ≡ Lost
unfolding begun
begun_parted space = refl
begun_parted newline = refl

-- behind a number they make place for another
pub onward_parted : {b : ℕ} (v : ℕ) → Parts b → Opens (onward v b)
unfolding onward
onward_parted v space = at_start
onward_parted v newline = at_line

-- behind a number a newline ends the line
pub onward_newline : (v : ℕ) → onward v 10 ≡ Line
unfolding onward
onward_newline v = refl

-- the number that the reader is in, if any, ends there
pub parted_ends : {b : ℕ} (p : Place) → Parts b → ended_by p b ≡ ended p
unfolding ended_by parting
parted_ends p space = refl
parted_ends p newline = refl

-- ---- any other byte loses the reader
module _ (b : ℕ) (p : eqb b 32 ≡ false) (q : eqb b 10 ≡ false) (r : within 48 57 b ≡ false) where
  -- where a number must start
  pub begun-other : begun b ≡ Lost
  unfolding begun
  begun-other = rw r

  -- and inside one
  pub onward-other : (v : ℕ) → onward v b ≡ Lost
  unfolding onward
  onward-other v = rw (p, q, r)
