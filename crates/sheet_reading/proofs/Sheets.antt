-- What a text says is what is read: its rows, or its first fault with line and column. Assumes nothing.
use Prim.Native.Nat.{◌+◌, ◌<◌, ◌≤◌, ℕ}
use Rattle.laws.specs.Lists.{joined}
use Rattle.sheet_reading.proofs.Closings.{or_fits}
use Rattle.sheet_reading.proofs.LineEnds.{Fresh, below-closed, blank-closed, blank_names, blank_trouble, ended_line, names-failed, names-taken, row-failed, row-taken}
use Rattle.sheet_reading.proofs.Laying.{laid, laid-long, laid_more, laid_none}
use Rattle.sheet_reading.proofs.Runs.{pieces}
use Rattle.sheet_reading.proofs.Texts.{behind_mark, lines-run, mark-run, whole, wholes, wholes_stay}
use Rattle.sheet_reading.specs.Closing.{counted, failed, first_blank_lem, onward}
use Rattle.sheet_fields.specs.Fields.{as_names, as_row, cut, cut_at, cut_up}
use Rattle.sheet_reading.specs.Lines.{blank_line, fields_of, is_newline_lem, kept, lines, named, numbers, onto, unmarked}
use Rattle.sheet_reading.specs.Reading.{begun, ended, finished, inside, next, run}
use Rattle.sheet_reading.specs.Reads.{Reads}
use Rattle.line_reading.specs.Troubles.{none, trouble}
use Rattle.sheet_reading.specs.Says.{Told, line_trouble, says, stopped, told, told_all, told_by, told_names}
use Rattle.sheet_reading.specs.declared.Reader.{Reader}
use Rattle.line_reading.specs.declared.Line.{Line}
use Rattle.line_reading.specs.declared.Trouble.{Trouble}
use borrow.Author.Tests.{eq-eqb, eqb-false, eqb-true, lt-ltb, ne_eqb}
use lib.Dec.{eqb}
use lib.ListN.{drop, length, length-append}
use mathlib.Core.Bool.{Bool, ◌&&◌, cond, false, true}
use mathlib.Core.List.{List, [], ◌++◌, ◌∷◌}
use mathlib.Core.Path.{◌∙◌, ◌≡◌, ap, refl, subst, sym}
use native.Mathlib.Nat.{add-zero}
use native.Mathlib.Omega.{arith}

-- ---- the end of a text
-- what has become of a reader that had put `put` numbers as `rows` rows, where the rest of the text says o
record Stood (rows put : ℕ) (table : List ℕ) (o : Told) (s : Reader × List ℕ) : Type 0 where
  fault : s.0.fault ≡ o.kind
  line : (o.kind ≡ 0 → ⊥) → s.0.line ≡ o.line
  column : s.0.column ≡ o.column
  columns : s.0.columns ≡ o.columns
  count : s.0.rows ≡ rows + length o.rs
  sum : s.0.put ≡ put + length (joined o.rs)
  content : s.1 ≡ laid table put (joined o.rs)

-- the same, said or come by otherwise
swap : {rows put : ℕ} {table : List ℕ} {o o' : Told} {s s' : Reader × List ℕ} → o ≡ o' → s ≡ s' → Stood rows put table o s
    → Stood rows put table o' s'
swap {rows} {put} {table} {o} {o'} {s} {s'} p q x =
    subst (λ (y : Reader × List ℕ). Stood rows put table o' y) q (subst (λ (y : Told). Stood rows put table y s) p x)

-- the end, where all lines were read
abbrev done : Reader × List ℕ → Reader × List ℕ
done s = (ended s.0, s.1)

-- a fault stays
ended-fault : (r : Reader) → (r.fault ≡ 0 → ⊥) → ended r ≡ r
unfolding ended
ended-fault r z = rw (ne_eqb r.fault 0 z)

-- a fault in a line
fail_stood : (r : Reader) (table : List ℕ) (l : Line) (line : ℕ) (t : Trouble) (ls : List (List ℕ)) → (t.kind ≡ 0 → ⊥)
    → Stood r.rows r.put table (stopped t line r.columns) (done (wholes (failed r l line t, table) ls))
unfolding failed stopped
fail_stood r table l line t ls z =
    swap refl
    (sym (ap (λ (s : Reader × List ℕ). done s) (wholes_stay ls (failed r l line t, table) z)
    ∙ ap (λ (y : Reader). (y, table)) (ended-fault (failed r l line t) z)))
    (record {
      fault = refl;
      line = λ e. refl;
      column = refl;
      columns = refl;
      count = sym (add-zero r.rows);
      sum = sym (add-zero r.put);
      content = laid_none table r.put;
    })

-- what a text without more lines says
abbrev over : ℕ → ℕ → ℕ → Told
over line columns rows = stopped (cond (eqb rows 0) (record { kind = 8; column = 1 }) none) line columns

-- no line more
end_stood : (r : Reader) (table : List ℕ) → r.fault ≡ 0 → r.column ≡ 0
    → Stood r.rows r.put table (over (first_blank_lem r.blank r.line) r.columns r.rows) (ended r, table)
unfolding ended failed stopped
end_stood r table z c = rw (eq-eqb r.fault 0 z) (go (eqb r.rows 0))
  where
    go : (b : Bool)
        → Stood r.rows r.put table (stopped (cond b (record { kind = 8; column = 1 }) none) (first_blank_lem r.blank r.line) r.columns)
        (cond b (failed r r.here (first_blank_lem r.blank r.line) (record { kind = 8; column = 1 })) r, table)
    go true =
        record {
          fault = refl;
          line = λ e. refl;
          column = refl;
          columns = refl;
          count = sym (add-zero r.rows);
          sum = sym (add-zero r.put);
          content = laid_none table r.put;
        }
    go false =
        record {
          fault = z;
          line = λ e. absurd (e refl);
          column = c;
          columns = refl;
          count = sym (add-zero r.rows);
          sum = sym (add-zero r.put);
          content = laid_none table r.put;
        }

-- ---- behind a blank line
-- what a text says behind a blank line with this number, if these lines are kept below it
abbrev after_blank : ℕ → ℕ → ℕ → List (List ℕ) → Told
after_blank line columns rows [] = over line columns rows
after_blank line columns rows (m ∷ ms) = stopped (record { kind = 7; column = 1 }) line columns

-- one blank line more
blank_more : (line columns rows : ℕ) (l : List ℕ) (ks : List (List ℕ))
    → after_blank line columns rows ks ≡ after_blank line columns rows (onto true l ks)
blank_more line columns rows l [] = refl
blank_more line columns rows l (m ∷ ms) = refl

-- a line that is not blank
full_more : (line columns rows : ℕ) (l : List ℕ) (ks : List (List ℕ))
    → stopped (record { kind = 7; column = 1 }) line columns ≡ after_blank line columns rows (onto false l ks)
full_more line columns rows l [] = refl
full_more line columns rows l (m ∷ ms) = refl

-- the reader behind a line is fresh again
onward-fresh : (r : Reader) (blank columns rows put : ℕ) → Fresh r → Fresh (onward r blank columns rows put)
unfolding onward
onward-fresh r blank columns rows put h = record { fine = h.fine; empty = refl; free = refl; column = h.column }

-- the first of blank lines stays
first-stays : (blank line : ℕ) → (blank ≡ 0 → ⊥) → first_blank_lem blank line ≡ blank
unfolding first_blank_lem
first-stays blank line z = rw (ne_eqb blank 0 z)

-- one is not blank, or there is no fault but that there are no rows
blank_stood : (ls : List (List ℕ)) (r : Reader) (table : List ℕ) → Fresh r → (r.blank ≡ 0 → ⊥)
    → Stood r.rows r.put table (after_blank r.blank r.columns r.rows (kept ls)) (done (wholes (r, table) ls))
unfolding wholes kept onward
blank_stood [] r table h z =
    swap (ap (λ (k : ℕ). over k r.columns r.rows) (first-stays r.blank r.line z)) refl (end_stood r table h.fine h.column)
blank_stood (l ∷ ls) r table h z = go (blank_line l) refl (blank_stood ls)
  where
    go : (b : Bool) → blank_line l ≡ b
        → ((r : Reader) (table : List ℕ) → Fresh r → (r.blank ≡ 0 → ⊥)
        → Stood r.rows r.put table (after_blank r.blank r.columns r.rows (kept ls)) (done (wholes (r, table) ls)))
        → Stood r.rows r.put table (after_blank r.blank r.columns r.rows (onto b l (kept ls))) (done (wholes (whole (r, table) l) ls))
    go true e i =
        swap (blank_more r.blank r.columns r.rows l (kept ls))
        (ap (λ (s : Reader × List ℕ). done (wholes s ls))
        (sym (blank-closed r table l h e
        ∙ ap (λ (k : ℕ). (onward r k r.columns r.rows r.put, table)) (first-stays r.blank r.line z))))
        (i (onward r r.blank r.columns r.rows r.put) table (onward-fresh r r.blank r.columns r.rows r.put h) z)
    go false e i =
        swap (full_more r.blank r.columns r.rows l (kept ls))
        (ap (λ (s : Reader × List ℕ). done (wholes s ls)) (sym (below-closed r table l h e z)))
        (fail_stood r table (ended_line r.label l) r.blank (record { kind = 7; column = 1 }) ls (λ (n : ◌≡◌ {A = ℕ} 7 0). omega arith))

-- no blank line above
none_above : (blank line : ℕ) → blank ≡ 0 → first_blank_lem blank line ≡ line
unfolding first_blank_lem
none_above blank line z = rw (eq-eqb blank 0 z)

-- a first blank line, behind no other
first-blank : (l : List ℕ) (ls : List (List ℕ)) (r : Reader) (table : List ℕ) → Fresh r → r.blank ≡ 0 → 1 ≤ r.line → blank_line l ≡ true
    → Stood r.rows r.put table (after_blank r.line r.columns r.rows (kept ls)) (done (wholes (whole (r, table) l) ls))
unfolding onward
first-blank l ls r table h b m e =
    swap refl
    (ap (λ (s : Reader × List ℕ). done (wholes s ls))
    (sym (blank-closed r table l h e
    ∙ ap (λ (k : ℕ). (onward r k r.columns r.rows r.put, table)) (none_above r.blank r.line b))))
    (blank_stood ls (onward r r.line r.columns r.rows r.put) table (onward-fresh r r.line r.columns r.rows r.put h)
    (λ (z : r.line ≡ 0). omega arith))

-- ---- lines, one after the other
-- the next line's number
count_next : (line : ℕ) → line < 18_446_744_073_709_551_615 → counted line ≡ line + 1
unfolding counted
count_next line h = rw (lt-ltb line 18_446_744_073_709_551_615 h)

-- what a blank line says, with what is kept below it
blank_told : (label : ℕ) (l : List ℕ) (ks : List (List ℕ)) (room line columns rows put : ℕ) → blank_line l ≡ true
    → after_blank line columns rows ks ≡ told label room line columns rows put (onto true l ks)
unfolding told told_by
blank_told label l [] room line columns rows put e = refl
blank_told label l (m ∷ ms) room line columns rows put e = rw (blank_trouble label l columns rows put room e)

-- a line that is not blank is kept
full_kept : (l : List ℕ) (ks : List (List ℕ)) → onto false l ks ≡ l ∷ ks
full_kept l [] = refl
full_kept l (m ∷ ms) = refl

-- a row in which nothing is wrong has room
row_room : (label columns rows put room : ℕ) (l : List ℕ) → (line_trouble label columns rows put room l).kind ≡ 0 → put + length (numbers label l) ≤ room
unfolding line_trouble
row_room label columns rows put room l e = (or_fits (trouble (as_row label) 0 (fields_of l)) columns rows put (length (numbers label l)) room e).space

-- what these lines leave of any reader that stands below the first line
abbrev Below : List (List ℕ) → Type 0
Below ls = (r : Reader) (table : List ℕ) → Fresh r → r.blank ≡ 0 → 2 ≤ r.line → r.line + length ls ≤ 18_446_744_073_709_551_615
    → Stood r.rows r.put table (told r.label (length table) r.line r.columns r.rows r.put (kept ls)) (done (wholes (r, table) ls))

module _ (l : List ℕ) (ls : List (List ℕ)) (r : Reader) (table : List ℕ) (h : Fresh r) (b : r.blank ≡ 0) (n : blank_line l ≡ false)
    (m : r.line + length (l ∷ ls) ≤ 18_446_744_073_709_551_615) (p : 1 ≤ r.line) (i : Below ls) where
  -- a row in which nothing is wrong
  taken-stood : (eqb r.line 1 && named l) ≡ false → (line_trouble r.label r.columns r.rows r.put (length table) l).kind ≡ 0
      → r.put + length (numbers r.label l) ≤ length table
      → Stood r.rows r.put table (told r.label (length table) r.line r.columns r.rows r.put (l ∷ kept ls))
      (done (wholes (whole (r, table) l) ls))
  unfolding told told_by onward
  taken-stood y e f =
      let k : ℕ = length (numbers r.label l) in
      let c : counted r.line ≡ r.line + 1 = count_next r.line (omega arith) in
      let table' : List ℕ = laid table r.put (numbers r.label l) in
      let x : Reader = onward r 0 k (r.rows + 1) (r.put + k) in
      let g : length table' ≡ length table = laid-long table (numbers r.label l) r.put f in
      let o : Told = told r.label (length table) (r.line + 1) k (r.rows + 1) (r.put + k) (kept ls) in
      let q : Stood (r.rows + 1) (r.put + k) table' o (done (wholes (x, table') ls)) =
      swap (ap (λ (w : ℕ). told r.label w (counted r.line) k (r.rows + 1) (r.put + k) (kept ls)) g
      ∙ ap (λ (w : ℕ). told r.label (length table) w k (r.rows + 1) (r.put + k) (kept ls)) c) refl
      (i x table' (onward-fresh r 0 k (r.rows + 1) (r.put + k) h) refl (omega (arith, c)) (omega (arith, c))) in
      rw (eq-eqb (line_trouble r.label r.columns r.rows r.put (length table) l).kind 0 e)
      (swap refl (ap (λ (s : Reader × List ℕ). done (wholes s ls)) (sym (row-taken r table l h n b y e))) (more o q))
    where
      more : (o : Told) {s : Reader × List ℕ} → Stood (r.rows + 1) (r.put + length (numbers r.label l)) (laid table r.put (numbers r.label l)) o s
          → Stood r.rows r.put table
          (record { kind = o.kind; line = o.line; column = o.column; columns = o.columns; rs = numbers r.label l ∷ o.rs }) s
      more o q =
          let j : length (joined (numbers r.label l ∷ o.rs)) ≡ length (numbers r.label l) + length (joined o.rs) = length-append (numbers r.label l) (joined o.rs) in
          record {
            fault = q.fault;
            line = q.line;
            column = q.column;
            columns = q.columns;
            count = omega (arith, q.count);
            sum = omega (arith, q.sum, j);
            content = q.content ∙ laid_more table (numbers r.label l) r.put f (joined o.rs);
          }

  -- any row
  row-stood : (eqb r.line 1 && named l) ≡ false
      → Stood r.rows r.put table (told r.label (length table) r.line r.columns r.rows r.put (l ∷ kept ls))
      (done (wholes (whole (r, table) l) ls))
  unfolding told told_by
  row-stood y = go (eqb (line_trouble r.label r.columns r.rows r.put (length table) l).kind 0) refl
    where
      go : (q : Bool) → eqb (line_trouble r.label r.columns r.rows r.put (length table) l).kind 0 ≡ q
          → Stood r.rows r.put table (told r.label (length table) r.line r.columns r.rows r.put (l ∷ kept ls))
          (done (wholes (whole (r, table) l) ls))
      go true e =
          let z : (line_trouble r.label r.columns r.rows r.put (length table) l).kind ≡ 0 =
          eqb-true (line_trouble r.label r.columns r.rows r.put (length table) l).kind 0 e in
          taken-stood y z (row_room r.label r.columns r.rows r.put (length table) l z)
      go false e =
          let z : (line_trouble r.label r.columns r.rows r.put (length table) l).kind ≡ 0 → ⊥ =
          eqb-false (line_trouble r.label r.columns r.rows r.put (length table) l).kind 0 e in
          rw e
          (swap refl (ap (λ (s : Reader × List ℕ). done (wholes s ls)) (sym (row-failed r table l h n b y z)))
          (fail_stood r table (ended_line r.label l) r.line (line_trouble r.label r.columns r.rows r.put (length table) l) ls z))

-- lines below the first
lines_stood : (ls : List (List ℕ)) → Below ls
unfolding wholes kept told
lines_stood [] r table h b p m =
    swap (ap (λ (k : ℕ). over k r.columns r.rows) (none_above r.blank r.line b)) refl (end_stood r table h.fine h.column)
lines_stood (l ∷ ls) r table h b p m = go (blank_line l) refl (lines_stood ls)
  where
    later : eqb r.line 1 ≡ false
    later = ne_eqb r.line 1 (λ (e : r.line ≡ 1). omega arith)

    go : (q : Bool) → blank_line l ≡ q → Below ls
        → Stood r.rows r.put table (told r.label (length table) r.line r.columns r.rows r.put (onto q l (kept ls)))
        (done (wholes (whole (r, table) l) ls))
    go true e i =
        swap (blank_told r.label l (kept ls) (length table) r.line r.columns r.rows r.put e) refl
        (first-blank l ls r table h b (omega arith) e)
    go false e i =
        swap (ap (told r.label (length table) r.line r.columns r.rows r.put) (sym (full_kept l (kept ls)))) refl
        (row-stood l ls r table h b e m (omega arith) i (rw later))

-- ---- the first line
-- what a blank first line says
blank_all : (label : ℕ) (l : List ℕ) (ks : List (List ℕ)) (room : ℕ) → blank_line l ≡ true → after_blank 1 0 0 ks ≡ told_all label room (onto true l ks)
unfolding told_all told told_names
blank_all label l [] room e = refl
blank_all label l (m ∷ ms) room e = let x = blank_names l e in rw (x.0, x.1)

-- what any other first line says
all_full : (label : ℕ) (l : List ℕ) (ks : List (List ℕ)) (room : ℕ)
    → cond (named l) (told_names (trouble as_names 0 (fields_of l)) label room (length (fields_of l)) ks) (told label room 1 0 0 0 (l ∷ ks)) ≡ told_all label room (l ∷ ks)
unfolding told_all
all_full label l ks room = refl

module _ (label : ℕ) (l : List ℕ) (ls : List (List ℕ)) (table : List ℕ) (m : 1 + length (l ∷ ls) ≤ 18_446_744_073_709_551_615) where
  -- the reader before it is fresh
  begun_fresh : Fresh (behind_mark label)
  unfolding begun inside
  begun_fresh = record { fine = refl; empty = refl; free = refl; column = refl }

  -- names
  names-stood : blank_line l ≡ false → named l ≡ true
      → Stood 0 0 table (told_names (trouble as_names 0 (fields_of l)) label (length table) (length (fields_of l)) (kept ls))
      (done (wholes (whole (behind_mark label, table) l) ls))
  unfolding told_names begun inside onward
  names-stood n y = go (eqb (trouble as_names 0 (fields_of l)).kind 0) refl
    where
      go : (q : Bool) → eqb (trouble as_names 0 (fields_of l)).kind 0 ≡ q
          → Stood 0 0 table
          (cond q (told label (length table) 2 (length (fields_of l)) 0 0 (kept ls)) (stopped (trouble as_names 0 (fields_of l)) 1 0))
          (done (wholes (whole (behind_mark label, table) l) ls))
      go true e =
          let z : (trouble as_names 0 (fields_of l)).kind ≡ 0 = eqb-true (trouble as_names 0 (fields_of l)).kind 0 e in
          let c : counted 1 ≡ 2 = count_next 1 (omega arith) in
          swap (ap (λ (k : ℕ). told label (length table) k (length (fields_of l)) 0 0 (kept ls)) c)
          (ap (λ (s : Reader × List ℕ). done (wholes s ls)) (sym (names-taken (behind_mark label) table l begun_fresh n refl y z)))
          (lines_stood ls (onward (behind_mark label) 0 (length (fields_of l)) 0 0) table (onward-fresh (behind_mark label) 0 (length (fields_of l)) 0 0 begun_fresh) refl
          (omega (arith, c)) (omega (arith, c)))
      go false e =
          let z : (trouble as_names 0 (fields_of l)).kind ≡ 0 → ⊥ = eqb-false (trouble as_names 0 (fields_of l)).kind 0 e in
          swap refl (ap (λ (s : Reader × List ℕ). done (wholes s ls)) (sym (names-failed (behind_mark label) table l begun_fresh n refl y z)))
          (fail_stood (behind_mark label) table (ended_line label l) 1 (trouble as_names 0 (fields_of l)) ls z)

  -- any first line
  first-stood : Stood 0 0 table (told_all label (length table) (onto (blank_line l) l (kept ls))) (done (wholes (whole (behind_mark label, table) l) ls))
  unfolding begun inside
  first-stood = go (blank_line l) refl
    where
      full : (q : Bool) → named l ≡ q → blank_line l ≡ false
          → Stood 0 0 table
          (cond q (told_names (trouble as_names 0 (fields_of l)) label (length table) (length (fields_of l)) (kept ls)) (told label (length table) 1 0 0 0 (l ∷ kept ls)))
          (done (wholes (whole (behind_mark label, table) l) ls))
      full true y n = names-stood n y
      full false y n = row-stood l ls (behind_mark label) table begun_fresh refl n m (omega arith) (lines_stood ls) y

      go : (q : Bool) → blank_line l ≡ q → Stood 0 0 table (told_all label (length table) (onto q l (kept ls))) (done (wholes (whole (behind_mark label, table) l) ls))
      go true e = swap (blank_all label l (kept ls) (length table) e) refl (first-blank l ls (behind_mark label) table begun_fresh refl (omega arith) e)
      go false e =
          swap (all_full label l (kept ls) (length table) ∙ ap (told_all label (length table)) (sym (full_kept l (kept ls)))) refl (full (named l) refl e)

-- ---- the whole text
-- a text has no more lines than one more than its bytes
cut_short : (t : List ℕ) → length (cut_up is_newline_lem t) ≤ length t + 1
unfolding cut
cut_short [] = omega arith
cut_short (b ∷ t) = go (eqb b 10) (cut_short t)
  where
    go : (q : Bool) → length (cut_up is_newline_lem t) ≤ length t + 1
        → length ((cut_at q b (cut is_newline_lem t)).0 ∷ (cut_at q b (cut is_newline_lem t)).1) ≤ length (b ∷ t) + 1
    go true h = omega (arith, h)
    go false h = omega (arith, h)

-- the mark does not make it longer
unmarked_short : (t : List ℕ) → length (unmarked t) ≤ length t
unfolding unmarked
unmarked_short [] = omega arith
unmarked_short (a ∷ []) = omega arith
unmarked_short (a ∷ b ∷ []) = omega arith
unmarked_short (a ∷ b ∷ c ∷ t) = go (eqb a 239 && (eqb b 187 && eqb c 191))
  where
    go : (q : Bool) → length (cond q t (a ∷ b ∷ c ∷ t)) ≤ length (a ∷ b ∷ c ∷ t)
    go true = omega arith
    go false = omega arith

-- the last newline
pub run-last : (t : List ℕ) (s : Reader × List ℕ) → run s (t ++ 10 ∷ []) ≡ next (run s t) 10
unfolding run
run-last t s = pieces t (10 ∷ []) s

-- behind the mark
marked_past : (label : ℕ) → 3 ≤ (behind_mark label).mark
unfolding inside
marked_past label = omega arith

-- WHAT A TEXT SAYS IS WHAT IS READ: its rows and no fault, or the first fault with its line and column, and the rows above it
pub sheet_read : (label : ℕ) (t table : List ℕ) → length t + 2 ≤ 18_446_744_073_709_551_615
    → Reads (says label (length table) t) table (finished (run (begun label, table) t))
unfolding says lines kept wholes finished
sheet_read label t table h =
    let s : Reader × List ℕ = next (run (begun label, table) t) 10 in
    let e : s ≡ wholes (behind_mark label, table) (cut_up is_newline_lem (unmarked t)) =
    sym (run-last t (begun label, table)) ∙ mark-run label table t ∙ lines-run (unmarked t) (behind_mark label) table (marked_past label) in
    let i : Stood 0 0 table (says label (length table) t) (done s) =
    swap refl (ap (λ (x : Reader × List ℕ). done x) (sym e))
    (first-stood label (cut is_newline_lem (unmarked t)).0 (cut is_newline_lem (unmarked t)).1 table
    (omega (arith, cut_short (unmarked t), unmarked_short t))) in
    let z : 0 + length (joined (says label (length table) t).rs) ≡ length (joined (says label (length table) t).rs) = omega arith in
    record {
      fault = i.fault;
      line = i.line;
      column = i.column;
      columns = i.columns;
      rows = i.count ∙ omega arith;
      put = i.sum ∙ z;
      content = i.content ∙ ap (λ (k : ℕ). joined (says label (length table) t).rs ++ drop k table) z;
    }
