-- A field that ends: whether it is a label, and where its number stands. Assumes nothing.
use Prim.Native.Nat.{◌+◌, ◌-◌, ◌<◌, ◌≤◌, ℕ}
use Rattle.line_reading.specs.InLine.{added_as, marked}
use Rattle.line_reading.specs.declared.Line.{Line}
use Rattle.line_reading.specs.declared.Place.TheVariants.{Behind}
use Rattle.line_reading.specs.declared.Trouble.{Trouble}
use borrow.Author.Tests.{eq-eqb, eqb-false, eqb-true, le-leb, lt-leb, ne_eqb}
use lib.Dec.{eqb}
use lib.ListN.{set}
use mathlib.Core.Bool.{Bool, false, true}
use mathlib.Core.Path.{◌≡◌, refl, sym}
use native.Mathlib.Omega.{arith}

-- ---- a label's column
-- there is none
pub label_none : (label count : ℕ) → label ≡ 0 → false ≡ eqb label (count + 1)
label_none label count e = sym (ne_eqb label (count + 1) (λ (q : label ≡ count + 1). omega arith))

-- there is one: it is compared
pub label_some : (label count : ℕ) → (label ≡ 0 → ⊥) → eqb (label - 1) count ≡ eqb label (count + 1)
label_some label count k = go (eqb (label - 1) count) refl
  where
    go : (b : Bool) → eqb (label - 1) count ≡ b → b ≡ eqb label (count + 1)
    go true e = sym (eq-eqb label (count + 1) (omega (arith, eqb-true (label - 1) count e, k)))
    go false e =
        sym
        (ne_eqb label (count + 1)
        (λ (q : label ≡ count + 1).
        let z : label - 1 ≡ count = omega arith in
        eqb-false (label - 1) count e z))

-- ---- a field ends
module _ (l : Line) (kind named v : ℕ) (a b : Trouble) where
  -- it is one too many
  pub added-wide : 16 ≤ l.count → a ≡ marked l.numbers 3 17 → b ≡ marked l.names 3 17
      → record { place = Behind; figure = l.figure; count = 17; row = l.row; numbers = a; names = b; label = l.label } ≡ added_as l kind named v
  unfolding added_as
  added-wide h e f = rw (le-leb 16 l.count h, e, f)

  -- it stands behind the others
  pub added-behind : l.count < 16 → a ≡ marked l.numbers kind (l.count + 1) → b ≡ marked l.names named (l.count + 1)
      → record {
        place = Behind;
        figure = l.figure;
        count = l.count + 1;
        row = set l.row l.count v;
        numbers = a;
        names = b;
        label = l.label;
      } ≡ added_as l kind named v
  unfolding added_as
  added-behind h e f = rw (lt-leb 16 l.count h, e, f)
