-- A line that ends: what is known of it where nothing is wrong, and what becomes of the reader and the table. Assumes nothing.
use Prim.Native.Nat.{◌+◌, ◌-◌, ◌<◌, ◌≤◌, min, ℕ}
use Rattle.line_reading.specs.InLine.{bare, emptied, settled}
use Rattle.sheet_reading.specs.Closing.{accepted, closed, counted, decided, end_trouble, failed, first_blank_lem, judged, onward, or_wide, titles}
use Rattle.line_reading.specs.Troubles.{none}
use Rattle.sheet_reading.specs.Says.{differs, or_row, row_trouble_lem}
use Rattle.sheet_reading.specs.declared.Reader.{Reader}
use Rattle.line_reading.specs.declared.Line.{Line}
use Rattle.line_reading.specs.declared.Trouble.{Trouble}
use borrow.Author.Tests.{eq-eqb, eqb-false, eqb-true, le-ltb, leb-false, lt-ltb, ltb-false, ltb-true, ne_eqb}
use lib.Dec.{eqb, leb, ltb}
use lib.ListN.{length}
use lib.Seq.{paste}
use mathlib.Core.Bool.{Bool, cond, false, true}
use mathlib.Core.List.{List}
use mathlib.Core.Path.{◌∙◌, ◌≡◌, ap, refl, sym}
use native.Mathlib.Omega.{arith}

-- ---- behind a line
-- its number is counted, and the next line is empty
pub onward_with : (r : Reader) (blank columns rows put n : ℕ) (l : Line) → n ≡ counted r.line → l ≡ emptied r.label
    → record {
      mark = r.mark;
      held = false;
      line = n;
      blank = blank;
      columns = columns;
      rows = rows;
      put = put;
      fault = r.fault;
      column = r.column;
      here = l;
      label = r.label;
    } ≡ onward r blank columns rows put
unfolding onward
onward_with r blank columns rows put n l e f = rw (e, f)

-- ---- nothing is wrong with the row
-- it is as wide as it may be and as the lines above, it is not one too many, and there is room
pub record Fits (columns rows put n room : ℕ) : Type 0 where
  pub narrow : n ≤ 16
  pub even : differs columns n ≡ false
  pub few : rows < 1_048_576
  pub space : put + n ≤ room

module _ (columns rows put n room : ℕ) where
  -- a row in which nothing is wrong fits
  pub row_fits : (row_trouble_lem columns rows put n room).kind ≡ 0 → Fits columns rows put n room
  unfolding row_trouble_lem
  row_fits e = go (ltb 16 n) (differs columns n) (leb 1_048_576 rows) (ltb room (put + n)) refl refl refl refl e
    where
      go : (q d m s : Bool) → ltb 16 n ≡ q → differs columns n ≡ d → leb 1_048_576 rows ≡ m → ltb room (put + n) ≡ s
          → (cond {A = Trouble} q (record { kind = 3; column = 17 })
          (cond d (record { kind = 4; column = min columns n + 1 })
          (cond m (record { kind = 5; column = 1 }) (cond s (record { kind = 6; column = 1 }) none)))).kind ≡ 0
          → Fits columns rows put n room
      go true d m s b c f g e = absurd (omega arith)
      go false true m s b c f g e = absurd (omega arith)
      go false false true s b c f g e = absurd (omega arith)
      go false false false true b c f g e = absurd (omega arith)
      go false false false false b c f g e =
          record {
            narrow = ltb-false 16 n b;
            even = c;
            few = leb-false 1_048_576 rows f;
            space = ltb-false room (put + n) g;
          }

-- ---- the room, told with no sum
module _ (room put n : ℕ) where
  -- what was put is already more than the room has
  pub lacks_front : room < put → true ≡ ltb room (put + n)
  lacks_front h = sym (lt-ltb room (put + n) (omega arith))

  -- or the rest of the room is compared
  pub lacks_behind : put ≤ room → ltb (room - put) n ≡ ltb room (put + n)
  lacks_behind h = go (ltb (room - put) n) refl
    where
      go : (b : Bool) → ltb (room - put) n ≡ b → b ≡ ltb room (put + n)
      go true e = sym (lt-ltb room (put + n) (omega (arith, ltb-true (room - put) n e)))
      go false e = sym (le-ltb room (put + n) (omega (arith, ltb-false (room - put) n e)))

-- ---- nothing is wrong with the line
-- names are at most sixteen
pub wide_fits : (t : Trouble) (n : ℕ) → (or_wide t n).kind ≡ 0 → n ≤ 16
unfolding or_wide
wide_fits t n e = go (eqb t.kind 0) (ltb 16 n) refl refl e
  where
    go : (a b : Bool) → eqb t.kind 0 ≡ a → ltb 16 n ≡ b → (cond {A = Trouble} a (cond b (record { kind = 3; column = 17 }) none) t).kind ≡ 0 → n ≤ 16
    go true true p q e = absurd (omega arith)
    go true false p q e = ltb-false 16 n q
    go false b p q e = absurd (eqb-false t.kind 0 p e)

-- a row fits
pub or_fits : (t : Trouble) (columns rows put n room : ℕ) → (or_row t columns rows put n room).kind ≡ 0 → Fits columns rows put n room
unfolding or_row
or_fits t columns rows put n room e = go (eqb t.kind 0) refl e
  where
    go : (a : Bool) → eqb t.kind 0 ≡ a → (cond a (row_trouble_lem columns rows put n room) t).kind ≡ 0 → Fits columns rows put n room
    go true p e = row_fits columns rows put n room e
    go false p e = absurd (eqb-false t.kind 0 p e)

module _ (r : Reader) (l : Line) (room : ℕ) (t : Trouble) (q : t ≡ end_trouble r l room) (e : t.kind ≡ 0) where
  -- so do names
  pub names-fit : titles r l ≡ true → l.count ≤ 16
  unfolding end_trouble
  names-fit y = wide_fits l.names l.count (rw y at (sym (ap (λ (x : Trouble). x.kind) q) ∙ e))

  -- and the row of a line
  pub line-fits : titles r l ≡ false → Fits r.columns r.rows r.put l.count room
  unfolding end_trouble
  line-fits y =
      or_fits l.numbers r.columns r.rows r.put l.count room (rw y at (sym (ap (λ (x : Trouble). x.kind) q) ∙ e))

-- ---- the ways on
module _ (r : Reader) (table : List ℕ) (l : Line) (t : Trouble) (q : t ≡ end_trouble r l (length table)) where
  -- something is wrong
  pub decided-failed : (t.kind ≡ 0 → ⊥) → decided r l (end_trouble r l (length table)) table ≡ (failed r l r.line t, table)
  unfolding decided
  decided-failed z = rw (← q, ne_eqb t.kind 0 z)

  -- names
  pub decided-titled : t.kind ≡ 0 → titles r l ≡ true → decided r l (end_trouble r l (length table)) table ≡ (onward r 0 l.count 0 0, table)
  unfolding decided accepted
  decided-titled z y = rw (← q, eq-eqb t.kind 0 z, y)

  -- a row
  pub decided-taken : t.kind ≡ 0 → titles r l ≡ false
      → decided r l (end_trouble r l (length table)) table
      ≡ (onward r 0 l.count (r.rows + 1) (r.put + l.count), paste table r.put l.row l.count)
  unfolding decided accepted
  decided-taken z y = rw (← q, eq-eqb t.kind 0 z, y)

module _ (r : Reader) (table : List ℕ) (l : Line) where
  -- below a blank line
  pub judged-blank : (r.blank ≡ 0 → ⊥) → judged r l table ≡ (failed r l r.blank (record { kind = 7; column = 1 }), table)
  unfolding judged
  judged-blank z = rw (ne_eqb r.blank 0 z)

  -- below none
  pub judged-none : r.blank ≡ 0 → judged r l table ≡ decided r l (end_trouble r l (length table)) table
  unfolding judged
  judged-none z = rw (eq-eqb r.blank 0 z)

module _ (r : Reader) (table : List ℕ) where
  -- a blank line
  pub closed-bare : (k : ℕ) → k ≡ first_blank_lem r.blank r.line → bare r.here ≡ true
      → closed r table ≡ (onward r k r.columns r.rows r.put, table)
  unfolding closed
  closed-bare k e y = rw (y, e)

  -- any other
  pub closed-full : (l : Line) → l ≡ settled r.here → bare r.here ≡ false → closed r table ≡ judged r l table
  unfolding closed
  closed-full l e y = rw (y, e)

-- a fact of each of the ways is one of what the line leads to
module _ (r : Reader) (table : List ℕ) (P : Reader × List ℕ → Type 0) where
  -- by the trouble
  pub decided-cases : (l : Line) (t : Trouble) → ((t.kind ≡ 0 → ⊥) → P (failed r l r.line t, table))
      → (t.kind ≡ 0 → titles r l ≡ true → P (onward r 0 l.count 0 0, table))
      → (t.kind ≡ 0 → titles r l ≡ false
      → P (onward r 0 l.count (r.rows + 1) (r.put + l.count), paste table r.put l.row l.count))
      → P (decided r l t table)
  unfolding decided accepted
  decided-cases l t fail name take = go (eqb t.kind 0) (titles r l) refl refl
    where
      go : (a b : Bool) → eqb t.kind 0 ≡ a → titles r l ≡ b
          → P (cond a
          (cond b (onward r 0 l.count 0 0, table)
          (onward r 0 l.count (r.rows + 1) (r.put + l.count), paste table r.put l.row l.count))
          (failed r l r.line t, table))
      go true true p q = name (eqb-true t.kind 0 p) q
      go true false p q = take (eqb-true t.kind 0 p) q
      go false b p q = fail (eqb-false t.kind 0 p)

  -- by the line
  pub closed-cases : (bare r.here ≡ true → P (onward r (first_blank_lem r.blank r.line) r.columns r.rows r.put, table))
      → (bare r.here ≡ false → (r.blank ≡ 0 → ⊥) → P (failed r (settled r.here) r.blank (record { kind = 7; column = 1 }), table))
      → (bare r.here ≡ false → r.blank ≡ 0
      → P (decided r (settled r.here) (end_trouble r (settled r.here) (length table)) table))
      → P (closed r table)
  unfolding closed judged
  closed-cases pass below judge = go (bare r.here) (eqb r.blank 0) refl refl
    where
      go : (a b : Bool) → bare r.here ≡ a → eqb r.blank 0 ≡ b
          → P (cond a (onward r (first_blank_lem r.blank r.line) r.columns r.rows r.put, table)
          (cond b (decided r (settled r.here) (end_trouble r (settled r.here) (length table)) table)
          (failed r (settled r.here) r.blank (record { kind = 7; column = 1 }), table)))
      go true b p q = pass p
      go false true p q = judge p (eqb-true r.blank 0 q)
      go false false p q = below p (eqb-false r.blank 0 q)
