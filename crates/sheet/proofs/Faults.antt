-- When each fault is told, and that no row is lost. Assumes nothing.
use Prim.Native.Nat.{◌+◌, ◌≤◌, ℕ}
use Rattle.laws.specs.Lists.{all, joined}
use Rattle.sheet_reading.proofs.Sheets.{sheet_read}
use Rattle.sheet_fields.specs.Fields.{as_names, as_number, is_digit_lem, value}
use Rattle.sheet_reading.specs.Lines.{fields_of, lines, named, numbers}
use Rattle.sheet_reading.specs.Reading.{begun, finished, run}
use Rattle.line_reading.specs.Troubles.{none, trouble}
use Rattle.sheet_reading.specs.Says.{Told, line_trouble, says, stopped, told, told_all, told_by, told_names}
use Rattle.sheet.specs.Stops.{Right, Stops, StopsText, Wrong, at_names, below_names, empty, great, no_names, right, strange}
use Rattle.sheet_fields.specs.declared.Kind.{Kind}
use Rattle.line_reading.specs.declared.Trouble.{Trouble}
use borrow.Author.Tests.{eqb-false, eqb-true, le-leb, leb-false, leb-true, lt-leb}
use lib.Dec.{T, eqb, leb}
use lib.ListN.{length, length-append, length-map}
use mathlib.Core.Bool.{Bool, cond, false, true}
use mathlib.Core.List.{List, [], ◌∷◌, map}
use mathlib.Core.Logic.{◌⊎◌, inl, inr}
use mathlib.Core.Path.{◌∙◌, ◌≡◌, ap, refl, subst, sym}
use native.Mathlib.Nat.{add-zero}
use native.Mathlib.Omega.{arith}

-- ---- no row is lost
-- one line more
more_rows : (t : Trouble) (line columns : ℕ) (ns : List ℕ) (o : Told) (rs : List (List ℕ)) → (o.kind ≡ 0 → o.rs ≡ rs)
    → (told_by t line columns ns o).kind ≡ 0 → (told_by t line columns ns o).rs ≡ ns ∷ rs
unfolding told_by stopped
more_rows t line columns ns o rs i e = go (eqb t.kind 0) refl e
  where
    go : (q : Bool) → eqb t.kind 0 ≡ q
        → (cond {A = Told} q (record { kind = o.kind; line = o.line; column = o.column; columns = o.columns; rs = ns ∷ o.rs })
        (stopped t line columns)).kind ≡ 0
        → (cond {A = Told} q (record { kind = o.kind; line = o.line; column = o.column; columns = o.columns; rs = ns ∷ o.rs })
        (stopped t line columns)).rs ≡ ns ∷ rs
    go true p e = ap (λ (x : List (List ℕ)). ns ∷ x) (i e)
    go false p e = absurd (eqb-false t.kind 0 p e)

-- these lines
told-rows : (label : ℕ) (ls : List (List ℕ)) (room line columns rows put : ℕ) → (told label room line columns rows put ls).kind ≡ 0
    → (told label room line columns rows put ls).rs ≡ map (numbers label) ls
unfolding told stopped
told-rows label [] room line columns rows put e = refl
told-rows label (l ∷ ls) room line columns rows put e =
    more_rows (line_trouble label columns rows put room l) line columns (numbers label l)
    (told label room (line + 1) (length (numbers label l)) (rows + 1) (put + length (numbers label l)) ls) (map (numbers label) ls)
    (told-rows label ls room (line + 1) (length (numbers label l)) (rows + 1) (put + length (numbers label l)))
    e

-- the lines below a line of names
abbrev pub row_lines : List (List ℕ) → List (List ℕ)
row_lines [] = []
row_lines (l ∷ ls) = cond (named l) ls (l ∷ ls)

-- of all lines
all_rows_lem : (label : ℕ) (ls : List (List ℕ)) (room : ℕ) → (told_all label room ls).kind ≡ 0 → (told_all label room ls).rs ≡ map (numbers label) (row_lines ls)
unfolding told_all told_names stopped
all_rows_lem label [] room e = told-rows label [] room 1 0 0 0 e
all_rows_lem label (l ∷ ls) room e = go (named l) (eqb (trouble as_names 0 (fields_of l)).kind 0) refl e
  where
    go : (a b : Bool) → eqb (trouble as_names 0 (fields_of l)).kind 0 ≡ b
        → (cond a (cond b (told label room 2 (length (fields_of l)) 0 0 ls) (stopped (trouble as_names 0 (fields_of l)) 1 0)) (told label room 1 0 0 0 (l ∷ ls))).kind ≡ 0
        → (cond a (cond b (told label room 2 (length (fields_of l)) 0 0 ls) (stopped (trouble as_names 0 (fields_of l)) 1 0)) (told label room 1 0 0 0 (l ∷ ls))).rs
        ≡ map (numbers label) (cond a ls (l ∷ ls))
    go true true p e = told-rows label ls room 2 (length (fields_of l)) 0 0 e
    go true false p e = absurd (eqb-false (trouble as_names 0 (fields_of l)).kind 0 p e)
    go false b p e = told-rows label (l ∷ ls) room 1 0 0 0 e

-- NO ROW IS LOST: A TEXT IN WHICH NOTHING IS WRONG HAS A ROW FOR EACH LINE BELOW ITS NAMES
pub sheet_rows : (label : ℕ) (t table : List ℕ) → length t + 2 ≤ 18_446_744_073_709_551_615 → (finished (run (begun label, table) t)).0.fault ≡ 0
    → ((says label (length table) t).rs ≡ map (numbers label) (row_lines (lines t)))
    × ((finished (run (begun label, table) t)).0.rows ≡ length (row_lines (lines t)))
unfolding says
sheet_rows label t table h e =
    let i = sheet_read label t table h in
    let x : (told_all label (length table) (lines t)).rs ≡ map (numbers label) (row_lines (lines t)) =
    all_rows_lem label (lines t) (length table) (sym i.fault ∙ e) in
    (x, i.rows ∙ ap (λ (y : List (List ℕ)). length y) x ∙ length-map (row_lines (lines t)) (numbers label))

-- ---- the fault of a field
-- it is told exactly where it is
pub field_wrong : {k : ℕ} {f : List Kind} → Wrong k f → as_number f ≡ k
unfolding as_number
field_wrong empty = refl
field_wrong (strange e) = rw e
field_wrong (great {k} {f} e h) = rw (e, lt-leb (value (k ∷ f)) 65_535 h)

-- none is told exactly where there is none
pub field_right : {f : List Kind} → Right f → as_number f ≡ 0
unfolding as_number
field_right (right {k} {f} e h) = rw (e, le-leb (value (k ∷ f)) 65_535 h)

-- and a field is the one or the other
pub field_told : (f : List Kind) → Wrong (as_number f) f ⊎ Right f
unfolding as_number
field_told [] = inl empty
field_told (k ∷ f) = go (all is_digit_lem (k ∷ f)) (leb (value (k ∷ f)) 65_535) refl refl
  where
    go : (a b : Bool) → all is_digit_lem (k ∷ f) ≡ a → leb (value (k ∷ f)) 65_535 ≡ b → Wrong (cond a (cond b 0 2) 1) (k ∷ f) ⊎ Right (k ∷ f)
    go true true p q = inr (right p (leb-true (value (k ∷ f)) 65_535 q))
    go true false p q = inl (great p (leb-false (value (k ∷ f)) 65_535 q))
    go false b p q = inl (strange p)

-- ---- the line of a fault
-- the first of these lines
abbrev first : List (List ℕ) → List ℕ
first [] = []
first (l ∷ ls) = l

-- no lines are not some
no_line : {l : List ℕ} {ls : List (List ℕ)} → [] ≡ l ∷ ls → ⊥
no_line {l} {ls} e = subst (λ (x : List (List ℕ)). T (is_none x)) e tt
  where
    is_none : List (List ℕ) → Bool
    is_none [] = true
    is_none (l ∷ ls) = false

-- one line more in front, with which nothing is wrong
stops_more : (label room line columns rows put : ℕ) (l : List ℕ) (ls : List (List ℕ)) (o : Told)
    → Stops label room (line + 1) (rows + 1) (put + length (numbers label l)) ls o
    → Stops label room line rows put (l ∷ ls) (record { kind = o.kind; line = o.line; column = o.column; columns = o.columns; rs = numbers label l ∷ o.rs })
stops_more label room line columns rows put l ls o i =
    let j : length (joined (numbers label l ∷ map (numbers label) i.before)) ≡ length (numbers label l) + length (joined (map (numbers label) i.before)) =
    length-append (numbers label l) (joined (map (numbers label) i.before)) in
    let p : rows + 1 + length i.before ≡ rows + length (l ∷ i.before) = omega arith in
    let q : put + length (numbers label l) + length (joined (map (numbers label) i.before)) ≡ put + length (joined (numbers label l ∷ map (numbers label) i.before)) =
    omega (arith, j) in
    record {
      before = l ∷ i.before;
      behind = i.behind;
      whole = ap (λ (x : List (List ℕ)). l ∷ x) i.whole;
      number = i.number ∙ omega arith;
      above = ap (λ (x : List (List ℕ)). numbers label l ∷ x) i.above;
      why = λ m ms e. rw (← p, ← q) (i.why m ms e);
      none = λ e. let x = i.none e in (x.0, sym p ∙ x.1);
    }

-- a line with which something is wrong
stops_here : (label room line columns rows put : ℕ) (l : List ℕ) (ls : List (List ℕ)) (t : Trouble) → t ≡ line_trouble label columns rows put room l
    → Stops label room line rows put (l ∷ ls) (stopped t line columns)
unfolding stopped
stops_here label room line columns rows put l ls t q =
    record {
      before = [];
      behind = l ∷ ls;
      whole = refl;
      number = sym (add-zero line);
      above = refl;
      why =
          λ m ms e.
          rw (add-zero rows, add-zero put) (ap (λ (x : List (List ℕ)). line_trouble label columns rows put room (first x)) (sym e) ∙ sym q);
      none = λ e. absurd (no_line (sym e));
    }

-- any line, and the lines below it
stops_by : (label room line columns rows put : ℕ) (l : List ℕ) (ls : List (List ℕ)) (t : Trouble) (o : Told) → t ≡ line_trouble label columns rows put room l
    → ((o.kind ≡ 0 → ⊥) → Stops label room (line + 1) (rows + 1) (put + length (numbers label l)) ls o)
    → ((told_by t line columns (numbers label l) o).kind ≡ 0 → ⊥) → Stops label room line rows put (l ∷ ls) (told_by t line columns (numbers label l) o)
unfolding told_by
stops_by label room line columns rows put l ls t o q i n = go (eqb t.kind 0) n
  where
    go : (b : Bool)
        → ((cond {A = Told} b (record { kind = o.kind; line = o.line; column = o.column; columns = o.columns; rs = numbers label l ∷ o.rs })
        (stopped t line columns)).kind ≡ 0 → ⊥)
        → Stops label room line rows put (l ∷ ls)
        (cond {A = Told} b (record { kind = o.kind; line = o.line; column = o.column; columns = o.columns; rs = numbers label l ∷ o.rs })
        (stopped t line columns))
    go true n = stops_more label room line columns rows put l ls o (i n)
    go false n = stops_here label room line columns rows put l ls t q

-- no line
stops_none : (label room line columns rows put : ℕ) (q : Bool) → eqb rows 0 ≡ q → ((stopped (cond q (record { kind = 8; column = 1 }) none) line columns).kind ≡ 0 → ⊥)
    → Stops label room line rows put [] (stopped (cond q (record { kind = 8; column = 1 }) none) line columns)
unfolding stopped
stops_none label room line columns rows put true p n =
    record {
      before = [];
      behind = [];
      whole = refl;
      number = sym (add-zero line);
      above = refl;
      why = λ l ms e. absurd (no_line e);
      none = λ e. (refl, add-zero rows ∙ eqb-true rows 0 p);
    }
stops_none label room line columns rows put false p n = absurd (n refl)

-- the first line that has a fault is told, with its number
told_stops : (label : ℕ) (ls : List (List ℕ)) (room line columns rows put : ℕ) → ((told label room line columns rows put ls).kind ≡ 0 → ⊥)
    → Stops label room line rows put ls (told label room line columns rows put ls)
unfolding told
told_stops label [] room line columns rows put n = stops_none label room line columns rows put (eqb rows 0) refl n
told_stops label (l ∷ ls) room line columns rows put n =
    stops_by label room line columns rows put l ls (line_trouble label columns rows put room l)
    (told label room (line + 1) (length (numbers label l)) (rows + 1) (put + length (numbers label l)) ls) refl
    (told_stops label ls room (line + 1) (length (numbers label l)) (rows + 1) (put + length (numbers label l)))
    n

-- its names may have the fault
all_stops : (label : ℕ) (ls : List (List ℕ)) (room : ℕ) → ((told_all label room ls).kind ≡ 0 → ⊥) → StopsText label room ls (told_all label room ls)
unfolding told_all told_names stopped
all_stops label [] room n = no_names (told_stops label [] room 1 0 0 0 n)
all_stops label (l ∷ ls) room n = go (named l) (eqb (trouble as_names 0 (fields_of l)).kind 0) refl refl n
  where
    go : (a b : Bool) → named l ≡ a → eqb (trouble as_names 0 (fields_of l)).kind 0 ≡ b
        → ((cond a (cond b (told label room 2 (length (fields_of l)) 0 0 ls) (stopped (trouble as_names 0 (fields_of l)) 1 0)) (told label room 1 0 0 0 (l ∷ ls))).kind ≡ 0
        → ⊥)
        → StopsText label room (l ∷ ls)
        (cond a (cond b (told label room 2 (length (fields_of l)) 0 0 ls) (stopped (trouble as_names 0 (fields_of l)) 1 0)) (told label room 1 0 0 0 (l ∷ ls)))
    go true true p q n = below_names refl p (eqb-true (trouble as_names 0 (fields_of l)).kind 0 q) (told_stops label ls room 2 (length (fields_of l)) 0 0 n)
    go true false p q n = at_names refl p refl refl
    go false b p q n = no_names (told_stops label (l ∷ ls) room 1 0 0 0 n)

-- A FAULT IS TOLD OF THE FIRST LINE THAT HAS ONE, WITH THAT LINE'S NUMBER AND COLUMN, ALSO WHERE IT IS THE LAST AND LACKS ITS NEWLINE
pub sheet_stops : (label : ℕ) (t table : List ℕ) → length t + 2 ≤ 18_446_744_073_709_551_615 → ((finished (run (begun label, table) t)).0.fault ≡ 0 → ⊥)
    → StopsText label (length table) (lines t) (says label (length table) t)
unfolding says
sheet_stops label t table h n = all_stops label (lines t) (length table) (λ (e : (told_all label (length table) (lines t)).kind ≡ 0). n ((sheet_read label t table h).fault ∙ e))
