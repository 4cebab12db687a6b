-- A text read one byte at a time, and in pieces. Assumes nothing.
use Prim.Native.Nat.{◌+◌, ◌<◌, ◌≤◌, ℕ}
use Rattle.sheet_reading.specs.Closing.{closed, failed, first_blank_lem}
use Rattle.line_reading.specs.InLine.{along}
use Rattle.sheet_fields.specs.Kinds.{kind_of}
use Rattle.sheet_reading.specs.Reading.{ended, finished, inside, mark_byte_lem, marking, next, read, released, run, unmarking}
use Rattle.sheet_reading.specs.declared.Reader.{Reader}
use Rattle.sheet_fields.specs.declared.Kind.TheVariants.{Other}
use Rattle.sheet_fields.specs.declared.Kind.{Kind}
use Rattle.line_reading.specs.declared.Line.{Line}
use borrow.Author.Tests.{eq-eqb, le-leb, lt-leb, ne_eqb}
use lib.ListN.{drop, drop_of_length-le, get_or, length}
use lib.Seq.{drop-cons}
use mathlib.Core.Bool.{false, true}
use mathlib.Core.List.{List, [], ◌++◌, ◌∷◌}
use mathlib.Core.Path.{◌∙◌, ◌≡◌, ap, refl, sym}
use native.Mathlib.Numerals.{add-one}
use native.Mathlib.Omega.{arith}

-- ---- the start was not the mark
-- one byte of it came, or two
pub unmarking-some : (r : Reader) (l : Line) (r' : Reader) → (r.mark ≡ 0 → ⊥) → l ≡ along r.here Other → r' ≡ inside r 3 r.held l → r' ≡ unmarking r
unfolding unmarking
unmarking-some r l r' z e h = rw (ne_eqb r.mark 0 z) (h ∙ ap (λ (x : Line). inside r 3 r.held x) e)

-- ---- one byte more
module _ (r : Reader) (table : List ℕ) (b : ℕ) where
  -- a newline ends the line
  pub read-newline : b ≡ 10 → read (r, table) b ≡ closed r table
  unfolding read
  read-newline e = rw (eq-eqb b 10 e)

  module _ (l : Line) (q : l ≡ released r) (n : b ≡ 10 → ⊥) where
    -- a carriage return is held back
    pub read-return : b ≡ 13 → read (r, table) b ≡ (inside r r.mark true l, table)
    unfolding read
    read-return e = rw (ne_eqb b 10 n, eq-eqb b 13 e, q)

    -- any other byte goes on in the line
    pub read-other : (k : Kind) (l' : Line) → k ≡ kind_of b → l' ≡ along l k → (b ≡ 13 → ⊥) → read (r, table) b ≡ (inside r r.mark false l', table)
    unfolding read
    read-other k l' h p e = rw (ne_eqb b 10 n, ne_eqb b 13 e, p, h, q)

  module _ (m : ℕ) (q : m ≡ mark_byte_lem r.mark) where
    -- a byte of the mark
    pub marking-next : b ≡ m → marking (r, table) b ≡ (inside r (r.mark + 1) r.held r.here, table)
    unfolding marking
    marking-next e = rw (eq-eqb b (mark_byte_lem r.mark) (e ∙ q))

    -- another
    pub marking-past : (r' : Reader) → r' ≡ unmarking r → (b ≡ m → ⊥) → marking (r, table) b ≡ read (r', table) b
    unfolding marking
    marking-past r' p e = rw (ne_eqb b (mark_byte_lem r.mark) (λ (h : b ≡ mark_byte_lem r.mark). e (h ∙ sym q)), p)

  -- behind a fault nothing changes
  pub next-stays : (r.fault ≡ 0 → ⊥) → next (r, table) b ≡ (r, table)
  unfolding next
  next-stays z = rw (ne_eqb r.fault 0 z)

  -- behind the start
  pub next-read : r.fault ≡ 0 → 3 ≤ r.mark → next (r, table) b ≡ read (r, table) b
  unfolding next
  next-read z m = rw (eq-eqb r.fault 0 z, le-leb 3 r.mark m)

  -- at the start
  pub next-marking : r.fault ≡ 0 → r.mark < 3 → next (r, table) b ≡ marking (r, table) b
  unfolding next
  next-marking z m = rw (eq-eqb r.fault 0 z, lt-leb 3 r.mark m)

-- ---- the end of the text
module _ (s : Reader × List ℕ) (r : Reader) (q : r ≡ (next s 10).0) where
  -- a fault stays
  pub finish-fault : (r.fault ≡ 0 → ⊥) → r ≡ (finished s).0
  unfolding finished ended
  finish-fault z = rw (← q, ne_eqb r.fault 0 z)

  -- so does a reader with rows
  pub finish-rows : r.fault ≡ 0 → (r.rows ≡ 0 → ⊥) → r ≡ (finished s).0
  unfolding finished ended
  finish-rows z y = rw (← q, eq-eqb r.fault 0 z, ne_eqb r.rows 0 y)

  -- no rows are a fault
  pub finish-none : (r' : Reader) (k : ℕ) → k ≡ first_blank_lem r.blank r.line → r' ≡ failed r r.here k (record { kind = 8; column = 1 })
      → r.fault ≡ 0 → r.rows ≡ 0 → r' ≡ (finished s).0
  unfolding finished ended
  finish-none r' k p e z y = rw (← q, eq-eqb r.fault 0 z, eq-eqb r.rows 0 y, ← p) e

  -- the table is as the last newline leaves it
  pub finish-table : (table : List ℕ) → table ≡ (next s 10).1 → table ≡ (finished s).1
  unfolding finished
  finish-table table e = e

-- ---- a text, byte by byte
module _ (s : Reader × List ℕ) (t : List ℕ) (i : ℕ) where
  -- one byte
  pub run-next : i < length t → run s (drop i t) ≡ run (next s (get_or t i 0)) (drop (i + 1) t)
  unfolding run
  run-next h = rw (drop-cons t i 0 h, add-one)

  -- none
  pub run_end : length t ≤ i → run s (drop i t) ≡ s
  unfolding run
  run_end h = rw (drop_of_length-le t h)

-- the reading from the front, i bytes in: what is left leads to the same end
pub record Fed (r₀ : Reader) (table₀ t : List ℕ) (r : Reader) (table : List ℕ) (i : ℕ) : Type 0 where
  pub bound : i ≤ length t
  pub leads : run (r, table) (drop i t) ≡ run (r₀, table₀) t
  pub long : length table ≡ length table₀

module _ (r₀ : Reader) (table₀ t : List ℕ) where
  -- before the first byte
  pub fed_start : Fed r₀ table₀ t r₀ table₀ 0
  fed_start = record { bound = omega arith; leads = refl; long = refl }

  module _ (r : Reader) (table : List ℕ) (i : ℕ) (h : Fed r₀ table₀ t r table i) where
    -- one byte more
    pub fed-next : (r' : Reader) (table' : List ℕ) → i < length t → r' ≡ (next (r, table) (get_or t i 0)).0 → table' ≡ (next (r, table) (get_or t i 0)).1
        → length table' ≡ length table → Fed r₀ table₀ t r' table' (i + 1)
    fed-next r' table' l p q e =
        record { bound = omega arith; leads = rw (p, q) (sym (run-next (r, table) t i l) ∙ h.leads); long = e ∙ h.long }

    -- behind the last
    pub fed-end : length t ≤ i → (r, table) ≡ run (r₀, table₀) t
    fed-end l = sym (run_end (r, table) t i l) ∙ h.leads

-- CHUNKS DO NOT MATTER: a text in two pieces is read as the whole
pub pieces : (a b : List ℕ) (s : Reader × List ℕ) → run s (a ++ b) ≡ run (run s a) b
unfolding run
pieces [] b s = refl
pieces (x ∷ a) b s = pieces a b (next s x)
