-- A whole line with its end: what becomes of a reader that stands at its start. Assumes nothing.
use Prim.Native.Nat.{◌+◌, ◌≤◌, ℕ}
use Rattle.laws.specs.Lists.{any}
use Rattle.sheet_reading.proofs.Closings.{closed-bare, closed-full, decided-failed, decided-taken, decided-titled, judged-blank, judged-none}
use Rattle.sheet_fields.proofs.FieldRuns.{blank_rest, fields_rest}
use Rattle.line_reading.proofs.Gathered.{line_figure, line_names, line_numbers, line_row, line_titles, worths-length}
use Rattle.sheet_reading.proofs.Laying.{laid}
use Rattle.line_reading.proofs.LineRuns.{gather, line_bare, line_fields, through}
use Rattle.sheet_reading.proofs.Texts.{hold_through, whole, whole_fine}
use Rattle.sheet_reading.specs.Closing.{closed, decided, end_trouble, failed, first_blank_lem, judged, onward, or_wide, titles}
use Rattle.sheet_fields.specs.Fields.{as_name, as_names, as_number, as_row, figured}
use Rattle.line_reading.specs.InLine.{emptied, settled}
use Rattle.sheet_reading.specs.Lines.{blank_line, fields_of, kinds, named, numbers}
use Rattle.sheet_reading.specs.Reading.{inside}
use Rattle.line_reading.specs.Troubles.{none, trouble}
use Rattle.sheet_reading.specs.Says.{line_trouble, or_row, row_trouble_lem}
use Rattle.sheet_reading.specs.declared.Reader.{Reader}
use Rattle.line_reading.specs.declared.Line.{Line}
use Rattle.line_reading.specs.declared.Trouble.{Trouble}
use borrow.Author.Tests.{eqb-true, le-ltb}
use lib.Dec.{eqb, ltb}
use lib.ListN.{drop, length, take}
use lib.Seq.{paste}
use mathlib.Core.Bool.{Bool, ◌&&◌, cond, false, not, true}
use mathlib.Core.List.{List, [], ◌++◌, ◌∷◌}
use mathlib.Core.Path.{◌∙◌, ◌≡◌, ap, refl, sym}
use native.Mathlib.Omega.{arith}

-- the reader stands at the start of a line, and nothing was wrong
pub record Fresh (r : Reader) : Type 0 where
  pub fine : r.fault ≡ 0
  pub empty : r.here ≡ emptied r.label
  pub free : r.held ≡ false
  pub column : r.column ≡ 0

-- ---- what the line has ended as
-- its last field has ended
unfoldable pub ended_line : ℕ → List ℕ → Line
ended_line label l = settled (through (emptied label) (kinds l))

module _ (label : ℕ) (l : List ℕ) where
  -- what is wrong with its fields as numbers
  end-numbers : (ended_line label l).numbers ≡ trouble (as_row label) 0 (fields_of l)
  unfolding ended_line
  end-numbers = ap (λ (x : Line). x.numbers) (line_fields label (kinds l)) ∙ line_numbers label (fields_of l)

  -- as names
  end-names : (ended_line label l).names ≡ trouble as_names 0 (fields_of l)
  unfolding ended_line
  end-names = ap (λ (x : Line). x.names) (line_fields label (kinds l)) ∙ line_names label (fields_of l)

  -- whether one begins as a figure
  end-figure : (ended_line label l).figure ≡ any figured (fields_of l)
  unfolding ended_line
  end-figure = ap (λ (x : Line). x.figure) (line_fields label (kinds l)) ∙ line_figure label (fields_of l)

  -- how many they are, where nothing is wrong with their numbers
  end-count : (trouble (as_row label) 0 (fields_of l)).kind ≡ 0 → (ended_line label l).count ≡ length (numbers label l)
  unfolding ended_line
  end-count e = ap (λ (x : Line). x.count) (line_fields label (kinds l)) ∙ (line_row label (fields_of l) e).0 ∙ sym (worths-length label (fields_of l) 0)

  -- these numbers
  end_row : (trouble (as_row label) 0 (fields_of l)).kind ≡ 0 → take (length (numbers label l)) (ended_line label l).row ≡ numbers label l
  unfolding ended_line
  end_row e =
      ap (λ (x : Line). take (length (numbers label l)) x.row) (line_fields label (kinds l))
      ∙ ap (λ (k : ℕ). take k (gather (emptied label) (fields_of l)).row) (worths-length label (fields_of l) 0)
      ∙ (line_row label (fields_of l) e).2

  -- how many names
  end-titles : (trouble as_names 0 (fields_of l)).kind ≡ 0 → (ended_line label l).count ≡ length (fields_of l)
  unfolding ended_line
  end-titles e = ap (λ (x : Line). x.count) (line_fields label (kinds l)) ∙ (line_titles label (fields_of l) e).0

-- only where nothing is wrong with the fields their count matters
or_count : (t : Trouble) (columns rows put n k room : ℕ) → (t.kind ≡ 0 → n ≡ k) → or_row t columns rows put n room ≡ or_row t columns rows put k room
unfolding or_row
or_count t columns rows put n k room f = go (eqb t.kind 0) refl
  where
    go : (b : Bool) → eqb t.kind 0 ≡ b → cond b (row_trouble_lem columns rows put n room) t ≡ cond b (row_trouble_lem columns rows put k room) t
    go true e = ap (λ (x : ℕ). row_trouble_lem columns rows put x room) (f (eqb-true t.kind 0 e))
    go false e = refl

-- names that are at most sixteen are not too many
wide_none : (t : Trouble) (n : ℕ) → (t.kind ≡ 0 → (n ≤ 16) × (t ≡ none)) → or_wide t n ≡ t
unfolding or_wide
wide_none t n f = go (eqb t.kind 0) refl
  where
    go : (b : Bool) → eqb t.kind 0 ≡ b → cond b (cond (ltb 16 n) (record { kind = 3; column = 17 }) none) t ≡ t
    go true e = let x = f (eqb-true t.kind 0 e) in rw (le-ltb 16 n x.0) (sym x.1)
    go false e = refl

-- ---- the reader behind the line
module _ (r : Reader) (table l : List ℕ) (h : Fresh r) where
  -- inside the line, where its newline comes
  abbrev there : Reader
  there = inside r r.mark false (through (emptied r.label) (kinds l))

  -- the newline decides
  whole-closed : whole (r, table) l ≡ closed there table
  whole-closed =
      let f : r.held ≡ false = h.free in
      let e : r.here ≡ emptied r.label = h.empty in
      whole_fine r table l h.fine
      ∙ ap (λ (x : Line). closed (inside r r.mark false x) table) (rw (f, e) (hold_through l (emptied r.label)).0)

  -- a blank line
  pub blank-closed : blank_line l ≡ true → whole (r, table) l ≡ (onward r (first_blank_lem r.blank r.line) r.columns r.rows r.put, table)
  unfolding onward inside
  blank-closed e = whole-closed ∙ closed-bare there table (first_blank_lem r.blank r.line) refl (line_bare r.label (kinds l) ∙ e)

  module _ (n : blank_line l ≡ false) where
    -- a line that is not blank is judged
    full-judged : whole (r, table) l ≡ judged there (ended_line r.label l) table
    unfolding inside ended_line
    full-judged = whole-closed ∙ closed-full there table (ended_line r.label l) refl (line_bare r.label (kinds l) ∙ n)

    -- it can't stand below a blank one
    pub below-closed : (r.blank ≡ 0 → ⊥) → whole (r, table) l ≡ (failed r (ended_line r.label l) r.blank (record { kind = 7; column = 1 }), table)
    unfolding failed inside
    below-closed z = full-judged ∙ judged-blank there table (ended_line r.label l) z

    module _ (b : r.blank ≡ 0) where
      -- below none
      full-decided : whole (r, table) l ≡ decided there (ended_line r.label l) (end_trouble there (ended_line r.label l) (length table)) table
      unfolding inside
      full-decided = full-judged ∙ judged-none there table (ended_line r.label l) b

      -- names stand in the first line alone
      titles-are : titles there (ended_line r.label l) ≡ (eqb r.line 1 && named l)
      unfolding titles named inside
      titles-are = ap (λ (x : Bool). eqb r.line 1 && not x) (end-figure r.label l)

      -- names
      module _ (y : (eqb r.line 1 && named l) ≡ true) where
        -- what is wrong with them
        names-trouble : trouble as_names 0 (fields_of l) ≡ end_trouble there (ended_line r.label l) (length table)
        unfolding end_trouble
        names-trouble =
            rw (titles-are ∙ y, end-names r.label l)
            (sym (wide_none (trouble as_names 0 (fields_of l)) (ended_line r.label l).count
            (λ (e : (trouble as_names 0 (fields_of l)).kind ≡ 0).
            let x = line_titles r.label (fields_of l) e in
            let c : (ended_line r.label l).count ≡ length (fields_of l) = end-titles r.label l e in
            (omega (arith, x.1, c), x.2))))

        -- something is
        pub names-failed : ((trouble as_names 0 (fields_of l)).kind ≡ 0 → ⊥)
            → whole (r, table) l ≡ (failed r (ended_line r.label l) r.line (trouble as_names 0 (fields_of l)), table)
        unfolding failed inside
        names-failed z = full-decided ∙ decided-failed there table (ended_line r.label l) (trouble as_names 0 (fields_of l)) names-trouble z

        -- nothing is
        pub names-taken : (trouble as_names 0 (fields_of l)).kind ≡ 0 → whole (r, table) l ≡ (onward r 0 (length (fields_of l)) 0 0, table)
        unfolding onward inside
        names-taken z =
            full-decided
            ∙ decided-titled there table (ended_line r.label l) (trouble as_names 0 (fields_of l)) names-trouble z (titles-are ∙ y)
            ∙ ap (λ (k : ℕ). (onward r 0 k 0 0, table)) (end-titles r.label l z)

      -- a row
      module _ (y : (eqb r.line 1 && named l) ≡ false) where
        -- what is wrong with it
        row-trouble : line_trouble r.label r.columns r.rows r.put (length table) l ≡ end_trouble there (ended_line r.label l) (length table)
        unfolding end_trouble line_trouble inside
        row-trouble =
            rw (titles-are ∙ y, end-numbers r.label l)
            (or_count (trouble (as_row r.label) 0 (fields_of l)) r.columns r.rows r.put (length (numbers r.label l)) (ended_line r.label l).count (length table)
            (λ (e : (trouble (as_row r.label) 0 (fields_of l)).kind ≡ 0). sym (end-count r.label l e)))

        -- something is
        pub row-failed : ((line_trouble r.label r.columns r.rows r.put (length table) l).kind ≡ 0 → ⊥)
            → whole (r, table) l ≡ (failed r (ended_line r.label l) r.line (line_trouble r.label r.columns r.rows r.put (length table) l), table)
        unfolding failed inside
        row-failed z =
            full-decided
            ∙ decided-failed there table (ended_line r.label l) (line_trouble r.label r.columns r.rows r.put (length table) l) row-trouble z

        -- nothing is wrong with its fields then
        fields-fine : (t : Trouble) (columns rows put n room : ℕ) → (or_row t columns rows put n room).kind ≡ 0 → t.kind ≡ 0
        unfolding or_row
        fields-fine t columns rows put n room e = go (eqb t.kind 0) refl e
          where
            go : (b : Bool) → eqb t.kind 0 ≡ b → (cond b (row_trouble_lem columns rows put n room) t).kind ≡ 0 → t.kind ≡ 0
            go true p e = eqb-true t.kind 0 p
            go false p e = e

        -- nothing is
        pub row-taken : (line_trouble r.label r.columns r.rows r.put (length table) l).kind ≡ 0
            → whole (r, table) l
            ≡ (onward r 0 (length (numbers r.label l)) (r.rows + 1) (r.put + length (numbers r.label l)), laid table r.put (numbers r.label l))
        unfolding onward inside line_trouble
        row-taken z =
            let f = fields-fine (trouble (as_row r.label) 0 (fields_of l)) r.columns r.rows r.put (length (numbers r.label l)) (length table) z in
            full-decided
            ∙ decided-taken there table (ended_line r.label l) (line_trouble r.label r.columns r.rows r.put (length table) l) row-trouble z (titles-are ∙ y)
            ∙ ap (λ (k : ℕ). (onward r 0 k (r.rows + 1) (r.put + k), paste table r.put (ended_line r.label l).row k)) (end-count r.label l f)
            ∙ ap (λ (x : List ℕ). (
              onward r 0 (length (numbers r.label l)) (r.rows + 1) (r.put + length (numbers r.label l)),
              take r.put table ++ x ++ drop (r.put + length (numbers r.label l)) table,
            )) (end_row r.label l f)

-- ---- blank lines
-- a blank line is one empty field
pub blank_fields : (l : List ℕ) → blank_line l ≡ true → fields_of l ≡ [] ∷ []
blank_fields l e = fields_rest (kinds l) ∙ blank_rest (kinds l) e

-- in any column of a row an empty field is wrong
blank_row : (label : ℕ) → as_row label 0 [] ≡ 7
unfolding as_row as_name as_number
blank_row label = go (eqb label (0 + 1))
  where
    go : (b : Bool) → ◌≡◌ {A = ℕ} (cond b 7 7) 7
    go true = refl
    go false = refl

-- so it is here
pub blank_trouble : (label : ℕ) (l : List ℕ) (columns rows put room : ℕ) → blank_line l ≡ true
    → line_trouble label columns rows put room l ≡ record { kind = 7; column = 1 }
unfolding line_trouble trouble or_row
blank_trouble label l columns rows put room e = rw (blank_fields l e, blank_row label)

-- and in names
pub blank_names : (l : List ℕ) → blank_line l ≡ true → (named l ≡ true) × (trouble as_names 0 (fields_of l) ≡ record { kind = 7; column = 1 })
unfolding named trouble as_name
blank_names l e = (rw (blank_fields l e), rw (blank_fields l e))
