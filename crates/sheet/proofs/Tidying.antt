-- From the first byte on a reader's numbers are in order, whatever the text. Assumes nothing.
use Prim.Native.Nat.{◌*◌, ◌+◌, ◌≤◌, ℕ}
use Rattle.sheet_reading.proofs.Closings.{Fits, closed-cases, decided-cases, line-fits, names-fit}
use Rattle.line_reading.specs.InLine.{added, added_as, along, bare, blank_at, emptied, moved, opened, opens, settled, settled_at}
use Rattle.sheet_reading.specs.Closing.{closed, decided, end_trouble, failed, first_blank_lem, onward, titles}
use Rattle.sheet_fields.specs.Kinds.{kind_of}
use Rattle.sheet_reading.specs.Reading.{begun, ended, finished, inside, mark_byte_lem, marking, next, read, released, run, unmarking}
use Rattle.sheet_reading.specs.Says.{differs}
use Rattle.sheet.specs.Tidy.{Tidy}
use Rattle.sheet_reading.specs.declared.Reader.{Reader}
use Rattle.sheet_fields.specs.declared.Kind.TheVariants.{Blank, Digit, Other, Parting, Quote, Sign}
use Rattle.sheet_fields.specs.declared.Kind.{Kind}
use Rattle.line_reading.specs.declared.Line.{Line}
use Rattle.line_reading.specs.declared.Place.TheVariants.{Behind, Great, Inside, Open, Quoted, Strange}
use Rattle.line_reading.specs.declared.Place.{Place}
use Rattle.line_reading.specs.declared.Trouble.{Trouble}
use Rattle.laws.proofs.Never.{never}
use borrow.Author.Tests.{eq-eqb, eqb-true}
use lib.Dec.{eqb, leb}
use lib.ListN.{length, length-set, set, take}
use lib.Seq.{length-paste, length-take-le}
use mathlib.Core.Bool.{Bool, ◌&&◌, cond, false, not, true}
use mathlib.Core.List.{List, [], ◌∷◌}
use mathlib.Core.Path.{◌∙◌, ◌≡◌, ap, refl, sym}
use native.Mathlib.Nat.{mul-add, mul-one, mul-zero, zero-mul}
use native.Mathlib.Omega.{arith}

-- ---- a line's row has sixteen places
-- before the first byte of a line
emptied_slots : (label : ℕ) → length (emptied label).row ≡ 16
unfolding emptied
emptied_slots label = refl

module _ (l : Line) (h : length l.row ≡ 16) where
  -- behind a field
  added-slots : (k v : ℕ) → length (added l k v).row ≡ 16
  unfolding added added_as
  added-slots k v = go (leb 16 l.count) (cond (eqb l.label (l.count + 1)) 0 v)
    where
      go : (b : Bool) (w : ℕ) → length (cond b l.row (set l.row l.count w)) ≡ 16
      go true w = h
      go false w = simp length-set h

  -- where the line ends
  settled-slots : length (settled l).row ≡ 16
  settled-slots = go l.place
    where
      go : (p : Place) → length (settled_at p l).row ≡ 16
      go Open = added-slots 7 0
      go (Inside v) = added-slots 0 v
      go Great = added-slots 2 0
      go Strange = added-slots 1 0
      go Behind = h
      go Quoted = added-slots 1 0

  -- behind a blank
  blank-slots : (p : Place) → length (blank_at p l).row ≡ 16
  blank-slots Open = h
  blank-slots (Inside v) = added-slots 0 v
  blank-slots Great = added-slots 2 0
  blank-slots Strange = added-slots 1 0
  blank-slots Behind = h
  blank-slots Quoted = added-slots 1 0

  -- behind any byte
  along-slots : (k : Kind) → length (along l k).row ≡ 16
  unfolding moved opened
  along-slots (Digit d) = h
  along-slots Blank = blank-slots l.place
  along-slots Parting = settled-slots
  along-slots Sign = h
  along-slots Other = h
  along-slots Quote = h

-- a line that is not bare has a field when it has ended
full_counts : (l : Line) → bare l ≡ false → ((settled l).count ≡ 0 → ⊥)
unfolding bare added added_as
full_counts l e = go l.place e
  where
    some : (b : Bool) → cond b 17 (l.count + 1) ≡ 0 → ⊥
    some true e = omega arith
    some false e = omega arith

    go : (p : Place) → (eqb l.count 0 && opens p) ≡ false → (settled_at p l).count ≡ 0 → ⊥
    go Open e = some (leb 16 l.count)
    go (Inside v) e = some (leb 16 l.count)
    go Great e = some (leb 16 l.count)
    go Strange e = some (leb 16 l.count)
    go Behind e = λ (z : l.count ≡ 0). never (sym e ∙ rw (eq-eqb l.count 0 z))
    go Quoted e = some (leb 16 l.count)

-- ---- before the first byte
pub begun_tidy : (label room : ℕ) → Tidy room (begun label)
unfolding begun
begun_tidy label room = record { put = refl; wide = omega arith; few = omega arith; space = omega arith; first = λ h. refl; slots = emptied_slots label }

-- ---- one byte more
-- lines above have as many fields, or there are none
pub even_cases : (columns n : ℕ) → differs columns n ≡ false → (P : Type 0) → (columns ≡ 0 → P) → (columns ≡ n → P) → P
unfolding differs
even_cases columns n e P f g = go (eqb columns 0) (eqb columns n) refl refl e
  where
    go : (a b : Bool) → eqb columns 0 ≡ a → eqb columns n ≡ b → (not a && not b) ≡ false → P
    go true b p q e = f (eqb-true columns 0 p)
    go false true p q e = g (eqb-true columns n q)
    go false false p q e = never (sym e)

module _ (room : ℕ) (r : Reader) (h : Tidy room r) where
  -- a blank line
  bare-tidy : (blank : ℕ) → Tidy room (onward r blank r.columns r.rows r.put)
  unfolding onward
  bare-tidy blank = record { put = h.put; wide = h.wide; few = h.few; space = h.space; first = h.first; slots = emptied_slots r.label }

  -- a line that can't be taken
  failed-tidy : (l : Line) (line : ℕ) (t : Trouble) → length l.row ≡ 16 → Tidy room (failed r l line t)
  unfolding failed
  failed-tidy l line t s = record { put = h.put; wide = h.wide; few = h.few; space = h.space; first = h.first; slots = s }

  -- names
  titled-tidy : (n : ℕ) → n ≤ 16 → Tidy room (onward r 0 n 0 0)
  unfolding onward
  titled-tidy n w = record { put = sym (mul-zero n); wide = w; few = omega arith; space = omega arith; first = λ z. refl; slots = emptied_slots r.label }

  -- one row more is as many numbers more
  grown : (n : ℕ) → differs r.columns n ≡ false → r.put + n ≡ n * (r.rows + 1)
  grown n e =
      even_cases r.columns n e (r.put + n ≡ n * (r.rows + 1))
      (λ (z : r.columns ≡ 0).
      let y : r.rows ≡ 0 = h.first z in
      let x : r.put ≡ 0 = h.put ∙ ap (λ (k : ℕ). k * r.rows) z ∙ zero-mul r.rows in
      rw (x, y) (omega arith))
      (λ (z : r.columns ≡ n). rw (mul-add, mul-one) (ap (λ (k : ℕ). k + n) (h.put ∙ ap (λ (k : ℕ). k * r.rows) z)))

  -- a row
  taken-tidy : (n : ℕ) → (n ≡ 0 → ⊥) → Fits r.columns r.rows r.put n room → Tidy room (onward r 0 n (r.rows + 1) (r.put + n))
  unfolding onward
  taken-tidy n z f =
      record {
        put = grown n f.even;
        wide = f.narrow;
        few = omega (arith, f.few);
        space = f.space;
        first = λ e. absurd (z e);
        slots = emptied_slots r.label;
      }

  -- inside a line
  inside-tidy : (mark : ℕ) (held : Bool) (l : Line) → length l.row ≡ 16 → Tidy room (inside r mark held l)
  unfolding inside
  inside-tidy mark held l s = record { put = h.put; wide = h.wide; few = h.few; space = h.space; first = h.first; slots = s }

  -- with what was held back
  released-slots : length (released r).row ≡ 16
  unfolding released
  released-slots = go r.held
    where
      go : (b : Bool) → length (cond b (along r.here Other) r.here).row ≡ 16
      go true = along-slots r.here h.slots Other
      go false = h.slots

  -- where the start was not the mark
  unmarking-tidy : Tidy room (unmarking r)
  unfolding unmarking
  unmarking-tidy = inside-tidy 3 r.held (cond (eqb r.mark 0) r.here (along r.here Other)) (go (eqb r.mark 0))
    where
      go : (b : Bool) → length (cond b r.here (along r.here Other)).row ≡ 16
      go true = h.slots
      go false = along-slots r.here h.slots Other

-- the reader is tidy, and the table is as long as it was
record Kept (table : List ℕ) (s : Reader × List ℕ) : Type 0 where
  tidy : Tidy (length table) s.0
  long : length s.1 ≡ length table

module _ (r : Reader) (table : List ℕ) (h : Tidy (length table) r) where
  -- a line that has ended
  decided-kept : (l : Line) → length l.row ≡ 16 → (l.count ≡ 0 → ⊥) → Kept table (decided r l (end_trouble r l (length table)) table)
  decided-kept l s n =
      let t : Trouble = end_trouble r l (length table) in
      decided-cases r table (Kept table) l t (λ z. record { tidy = failed-tidy (length table) r h l r.line t s; long = refl })
      (λ (z : t.kind ≡ 0) (y : titles r l ≡ true).
      record { tidy = titled-tidy (length table) r h l.count (names-fit r l (length table) t refl z y); long = refl })
      (λ (z : t.kind ≡ 0) (y : titles r l ≡ false).
      let f = line-fits r l (length table) t refl z y in
      record {
        tidy = taken-tidy (length table) r h l.count n f;
        long = length-paste table r.put l.row l.count f.space (omega (arith, f.narrow));
      })

  -- a newline
  closed-kept : Kept table (closed r table)
  closed-kept =
      closed-cases r table (Kept table) (λ e. record { tidy = bare-tidy (length table) r h (first_blank_lem r.blank r.line); long = refl })
      (λ e z.
      record {
        tidy =
            failed-tidy (length table) r h (settled r.here) r.blank (record { kind = 7; column = 1 })
            (settled-slots r.here h.slots);
        long = refl;
      })
      (λ e z. decided-kept (settled r.here) (settled-slots r.here h.slots) (full_counts r.here e))

  -- any byte behind the start
  read_kept : (b : ℕ) → Kept table (read (r, table) b)
  unfolding read
  read_kept b = go (eqb b 10) (eqb b 13)
    where
      go : (x y : Bool)
          → Kept table
          (cond x (closed r table)
          (cond y (inside r r.mark true (released r), table) (inside r r.mark false (along (released r) (kind_of b)), table)))
      go true y = closed-kept
      go false true =
          record { tidy = inside-tidy (length table) r h r.mark true (released r) (released-slots (length table) r h); long = refl }
      go false false =
          record {
            tidy =
                inside-tidy (length table) r h r.mark false (along (released r) (kind_of b))
                (along-slots (released r) (released-slots (length table) r h) (kind_of b));
            long = refl;
          }

-- a byte of the start
marking-kept : (r : Reader) (table : List ℕ) → Tidy (length table) r → (b : ℕ) → Kept table (marking (r, table) b)
unfolding marking
marking-kept r table h b = go (eqb b (mark_byte_lem r.mark))
  where
    go : (x : Bool) → Kept table (cond x (inside r (r.mark + 1) r.held r.here, table) (read (unmarking r, table) b))
    go true = record { tidy = inside-tidy (length table) r h (r.mark + 1) r.held r.here h.slots; long = refl }
    go false = read_kept (unmarking r) table (unmarking-tidy (length table) r h) b

-- one byte more
next-kept : (r : Reader) (table : List ℕ) → Tidy (length table) r → (b : ℕ) → Kept table (next (r, table) b)
unfolding next
next-kept r table h b = go (eqb r.fault 0) (leb 3 r.mark)
  where
    go : (x y : Bool) → Kept table (cond x (cond y (read (r, table) b) (marking (r, table) b)) (r, table))
    go true true = read_kept r table h b
    go true false = marking-kept r table h b
    go false y = record { tidy = h; long = refl }

-- ---- any text, and its end
-- all bytes of a text
run-kept : (t : List ℕ) (r : Reader) (table : List ℕ) → Tidy (length table) r → Kept table (run (r, table) t)
unfolding run
run-kept [] r table h = record { tidy = h; long = refl }
run-kept (b ∷ t) r table h =
    let k : Kept table (next (r, table) b) = next-kept r table h b in
    let n : Tidy (length (next (r, table) b).1) (next (r, table) b).0 = rw k.long k.tidy in
    let i : Kept (next (r, table) b).1 (run (next (r, table) b) t) = run-kept t (next (r, table) b).0 (next (r, table) b).1 n in
    record { tidy = rw k.long at i.tidy; long = i.long ∙ k.long }

-- A TIDY READER STAYS TIDY, WHATEVER IS READ
pub run_tidy : (t : List ℕ) (r : Reader) (table : List ℕ) → Tidy (length table) r → Tidy (length table) (run (r, table) t).0
run_tidy t r table h = (run-kept t r table h).tidy

-- and its end
pub finished_tidy : (r : Reader) (table : List ℕ) → Tidy (length table) r → Tidy (length table) (finished (r, table)).0
unfolding finished ended
finished_tidy r table h =
    let s : Reader = (next (r, table) 10).0 in
    go s (next-kept r table h 10).tidy (eqb s.fault 0 && eqb s.rows 0)
  where
    go : (x : Reader) → Tidy (length table) x → (b : Bool)
        → Tidy (length table) (cond b (failed x x.here (first_blank_lem x.blank x.line) (record { kind = 8; column = 1 })) x)
    go x y true = failed-tidy (length table) x y x.here (first_blank_lem x.blank x.line) (record { kind = 8; column = 1 }) y.slots
    go x y false = y

-- ---- the same of what the calls give back, in a table that is as long
module _ (r r' : Reader) (table table' : List ℕ) (h : Tidy (length table) r) (e : length table' ≡ length table) where
  -- a piece of the text
  pub feed-tidy : (t : List ℕ) → r' ≡ (run (r, table) t).0 → Tidy (length table') r'
  feed-tidy t q = rw (e, q) (run_tidy t r table h)

  -- the end of the text
  pub finish-tidy : r' ≡ (finished (r, table)).0 → Tidy (length table') r'
  finish-tidy q = rw (e, q) (finished_tidy r table h)

-- the part of the table that was put has its rows
pub part_fits : (r : Reader) (table : List ℕ) → Tidy (length table) r → r.columns * r.rows ≤ length (take r.put table)
part_fits r table h = omega (arith, h.put, length-take-le r.put table h.space)
