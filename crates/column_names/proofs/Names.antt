-- Names looked for in a line, and the column that a word says. Assumes nothing.
use Prim.Native.Nat.{◌+◌, ◌-◌, ◌<◌, ◌≤◌, suc, zero, ℕ}
use Rattle.asking.proofs.Saying.{same-pointwise}
use Rattle.asking.specs.Pieces.{part_of}
use Rattle.asking.specs.declared.pieces.Piece.{Piece}
use Rattle.asking.specs.Worth.{worth}
use Rattle.laws.specs.Lists.{same}
use Rattle.line_fields.specs.Fields.{IsField, field_in, span_of}
use Rattle.column_names.specs.Names.{InLine, column_said_lem, is_named, named_to, with_name}
use Rattle.std.specs.Prelude.{IfSome, None, Option, Some, is_some, unwrap_or}
use borrow.Author.Tests.{le-ltb, lt-ltb, ne_eqb}
use lib.Dec.{eqb, ltb}
use lib.Pointwise.{pointwise}
use mathlib.Core.Bool.{Bool, ◌||◌, cond, false, true}
use mathlib.Core.List.{List}
use mathlib.Core.Path.{◌∙◌, ◌≡◌, ap, ap₂, refl, sym}
use native.Mathlib.Numerals.{add-one}
use native.Mathlib.Omega.{arith}

-- ---- one field
module _ (l name : List ℕ) (column : ℕ) where
  -- there is none
  pub named-none : (span_of l (column - 1)).1 ≤ (span_of l (column - 1)).0 → false ≡ is_named l name column
  unfolding is_named
  named-none h = rw (le-ltb (span_of l (column - 1)).0 (span_of l (column - 1)).1 h) refl

  -- it is compared
  pub named-told : {p : Piece} → IsField l column p → {b : List ℕ} {r : Bool} → b ≡ part_of l p.start p.end → r ≡ pointwise eqb b name → r ≡ is_named l name column
  unfolding is_named field_in
  named-told f {b} q t =
      rw (lt-ltb (span_of l (column - 1)).0 (span_of l (column - 1)).1 (omega (arith, f.starts, f.ends, f.some)))
      (t ∙ same-pointwise b name ∙ ap (λ (x : List ℕ). same x name) (q ∙ ap₂ (part_of l) f.starts f.ends))

-- ---- the fields of a line
-- the first k fields were looked at
pub record Named (l name : List ℕ) (k : ℕ) (found : Option ℕ) : Type 0 where
  pub said : unwrap_or found 0 ≡ named_to l name k
  pub column : IfSome found InLine

module _ (l name : List ℕ) where
  -- none
  pub named-start : Named l name 0 None
  unfolding named_to
  named-start = record { said = refl; column = tt }

  -- the next one decides
  step : (k : ℕ) → named_to l name (k + 1) ≡ with_name l name (named_to l name k) (k + 1)
  unfolding named_to
  step k = rw add-one refl

  module _ (k : ℕ) {found : Option ℕ} (f : Named l name k found) where
    -- it is another
    pub named-other : is_named l name (k + 1) ≡ false → Named l name (k + 1) found
    unfolding with_name
    named-other n = record { said = f.said ∙ sym (step k ∙ rw n refl); column = f.column }

    -- it is the first that has the name
    pub named-first : is_named l name (k + 1) ≡ true → is_some found ≡ false → k < 16 → Named l name (k + 1) (Some (k + 1))
    unfolding with_name
    named-first y e h =
        let z : named_to l name k ≡ 0 = sym f.said ∙ none_zero found e in
        record { said = sym (step k ∙ rw (y, z) refl); column = (omega arith, omega arith) }
      where
        none_zero : (o : Option ℕ) → is_some o ≡ false → unwrap_or o 0 ≡ 0
        none_zero None e = refl
        none_zero (Some x) e = cc

    -- it is one more: two have the name, whatever comes behind
    pub named-again : is_named l name (k + 1) ≡ true → is_some found ≡ true → k < 16 → 17 ≡ named_to l name 16
    unfolding with_name
    named-again y e h = sym (ap (named_to l name) (omega arith) ∙ stays (15 - k))
      where
        some : (o : Option ℕ) → IfSome o InLine → is_some o ≡ true → unwrap_or o 0 ≡ 0 → ⊥
        some None c e z = cc
        some (Some x) c e z = omega (arith, c.0)

        two : named_to l name (k + 1) ≡ 17
        two = step k ∙ rw (y, ne_eqb (named_to l name k) 0 (λ q. some found f.column e (f.said ∙ q))) refl

        stays : (d : ℕ) → named_to l name (k + 1 + d) ≡ 17
        stays zero = ap (named_to l name) (omega arith) ∙ two
        stays (suc d) =
            ap (named_to l name) (omega arith) ∙ step (k + 1 + d)
            ∙ ap (λ (x : ℕ). with_name l name x (k + 1 + d + 1)) (stays d) ∙ either (is_named l name (k + 1 + d + 1))
          where
            either : (b : Bool) → ◌≡◌ {A = ℕ} (cond b 17 17) 17
            either true = refl
            either false = refl

    -- all were
    pub named-all : 16 ≤ k → k ≤ 16 → unwrap_or found 0 ≡ named_to l name 16
    named-all a b = f.said ∙ ap (named_to l name) (omega arith)

-- ---- a word
module _ (names word : List ℕ) (c said : ℕ) (w : said ≡ worth word) where
  -- it is no number
  pub said-name : {v : ℕ} → 10_000_000 ≤ said → v ≡ named_to names word 16 → v ≡ column_said_lem names word c
  unfolding column_said_lem
  said-name h e = rw (le-ltb (worth word) 10_000_000 (omega (arith, w))) e

  module _ (h : said < 10_000_000) where
    -- a number of no column
    pub said-wide : 16 < said → 0 ≡ column_said_lem names word c
    unfolding column_said_lem
    said-wide g = rw (lt-ltb (worth word) 10_000_000 (omega (arith, w)), lt-ltb 16 (worth word) (omega (arith, w))) refl

    pub said-beyond : said ≤ 16 → c < said → 0 ≡ column_said_lem names word c
    unfolding column_said_lem
    said-beyond g b =
        rw (lt-ltb (worth word) 10_000_000 (omega (arith, w)), le-ltb 16 (worth word) (omega (arith, w)), lt-ltb c (worth word) (omega (arith, w))) refl

    -- 0 is the number of none
    pub said-zero : said ≡ 0 → 0 ≡ column_said_lem names word c
    unfolding column_said_lem
    said-zero z = rw (lt-ltb (worth word) 10_000_000 (omega (arith, w))) (either (ltb 16 (worth word) || ltb c (worth word)) (worth word) (omega (arith, w)))
      where
        either : (b : Bool) (v : ℕ) → v ≡ 0 → 0 ≡ cond b 0 v
        either true v e = refl
        either false v e = sym e

    -- a number of a column
    pub said-number : said ≤ 16 → said ≤ c → said ≡ column_said_lem names word c
    unfolding column_said_lem
    said-number g b =
        rw (lt-ltb (worth word) 10_000_000 (omega (arith, w)), le-ltb 16 (worth word) (omega (arith, w)), le-ltb c (worth word) (omega (arith, w))) w
