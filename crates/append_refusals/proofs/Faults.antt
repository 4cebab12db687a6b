-- Why a call that puts rows into an index is refused: one law for each return of the code, and what holds where nothing is refused. Assumes nothing.
use Prim.Native.Nat.{◌*◌, ◌≤◌, ℕ}
use Rattle.append_refusals.specs.Numbers.{grow_faults}
use Rattle.build_refusals.proofs.Refusals.{rooms}
use Rattle.build_refusals.specs.Numbers.{room_of, short_of, writer_asks}
use Rattle.laws.proofs.Tests.{or_parts}
use Rattle.limits.proofs.Faults.{Numbered, early_numbered, fault-first, fault-next, fault-none, fault-not, number_of, says_first, says-next, says_none}
use Rattle.limits.proofs.Numbers.{Passed, Sized, numbers-numbered, passed, passed_none}
use Rattle.limits.specs.Limits.{max_columns}
use Rattle.limits.proofs.Outcomes.{refused_first}
use Rattle.limits.specs.Refusal.{said_by}
use Rattle.limits.specs.declared.refusal.Refusal.{Refusal}
use Rattle.limits.specs.Said.{Said, fault, number_faults, said}
use Rattle.limits.specs.declared.Asked.{Asked}
use Rattle.measure.proofs.OnCircle.{empty_on}
use Rattle.measure.specs.Table.{off_circle_lem, rows_of}
use Rattle.refusals.proofs.Refusals.{circle-none}
use Rattle.refusals.specs.Refused.{circle_faults}
use Rattle.words.proofs.InShape.{header_there}
use Rattle.words.proofs.Indexes.{by_shape, fit-early, fit-tests}
use Rattle.words.specs.Index.{index_faults}
use Rattle.words.specs.Shape.{shape_ok_lem}
use Rattle.words.specs.Words.{c#, circles#, n#, words_ok_lem}
use borrow.Author.Tests.{le-ltb}
use lib.ListN.{length}
use mathlib.Core.Bool.{Bool, ◌||◌, false, true}
use mathlib.Core.List.{List, [], ◌++◌}
use mathlib.Core.Path.{◌∙◌, ◌≡◌, ap, refl, sym}
use native.Mathlib.Omega.{arith}

-- NOTHING IS WRONG: the table, the room, the workspace, and the index of the `had` rows before the new ones, in whose circular columns no row holds
-- 3,600 or more; a row is new
pub record Free (T : List ℕ) (c : ℕ) (w : List ℕ) (room work : ℕ) (none : Bool) (had : ℕ) : Type 0 where
  pub table : Sized (length T) c
  pub space : room_of (rows_of T c) ≤ room
  pub words : 6 * rows_of T c ≤ work
  pub some : none ≡ false
  pub rows : n# w ≡ had
  pub columns : c# w ≡ c
  pub whole : words_ok_lem w ≡ true
  pub shape : shape_ok_lem w ≡ true
  pub on : off_circle_lem c (circles# w) T ≡ false

-- `none` is whether no row is new, and `had` how many the index is to have
module _ (T : List ℕ) (c : ℕ) (w : List ℕ) (room work : ℕ) (none : Bool) (had : ℕ) where
  -- what is said
  abbrev says : Said
  says = said (grow_faults T c w room work none had)

  -- what is asked of numbers
  abbrev asks : Asked
  asks = writer_asks (length T) c false room work

  -- the index's faults
  abbrev fits : List Said
  fits = index_faults w had c

  -- those of the circles
  abbrev last : List Said
  last = circle_faults c (circles# w) T []

  -- those behind the numbers
  abbrev next : List Said
  next = fault 8 none ++ (fits ++ last)

  -- each of the index's has a number
  fits-numbered : Numbered fits
  fits-numbered = early_numbered fits (fit-early (words_ok_lem w) w had c)

  -- numbers refuse the call
  pub of_numbers : {v : ℕ} → v ≡ (said (number_faults asks)).0 → (v ≡ 0 → ⊥) → v ≡ says.0
  of_numbers e h = e ∙ ap number_of (says_first (number_faults asks) next (λ z. h (e ∙ z)))

  module _ {v : ℕ} (e : v ≡ (said (number_faults asks)).0) (z : v ≡ 0) where
    -- past them the index decides
    after-numbers : said next ≡ says
    after-numbers = says-next (number_faults asks) next (numbers-numbered asks) (sym e ∙ z)

    -- the columns are few
    pub few-columns : c ≤ max_columns
    few-columns = (passed asks (sym e ∙ z)).table.few

    -- no row is new
    pub none-new : none ≡ true → 8 ≡ says.0
    none-new q = ap number_of (fault-first 8 (fits ++ last) q ∙ after-numbers)

    module _ {i k : ℕ} (h : none ≡ false) (q : k ≡ had) (f : i ≡ (said (index_faults w k c)).0) where
      -- what the code's numbers say of the index
      fit : i ≡ (said fits).0
      fit = f ∙ ap (λ (k : ℕ). (said (index_faults w k c)).0) q

      -- past 8 that index decides
      after-eight : said (fits ++ last) ≡ says
      after-eight = fault-next 8 (fits ++ last) h ∙ after-numbers

      -- it refuses the call
      pub of-index : (i ≡ 0 → ⊥) → i ≡ says.0
      of-index y = fit ∙ ap number_of (says_first fits last (λ z. y (fit ∙ z)) ∙ after-eight)

      module _ (y : i ≡ 0) where
        -- it does not: its header is there
        pub there : 8 ≤ length w
        there = header_there w (fit-tests (words_ok_lem w) w had c (sym fit ∙ y)).0

        -- and the circles decide
        pub of-circles : {o r : ℕ} → o ≡ circles# w → r ≡ (said (circle_faults c o T [])).0 → r ≡ says.0
        of-circles g r =
            r ∙ ap (λ (o : ℕ). (said (circle_faults c o T [])).0) g
            ∙ ap number_of (says-next fits last fits-numbered (sym fit ∙ y) ∙ after-eight)

  -- ---- the same, return by return of the code
  -- what numbers refuse is what the call says
  pub numbers-say : (r : Refusal) → said_by r ≡ said (number_faults asks) → said_by r ≡ says
  numbers-say r e = refused_first r (number_faults asks) next e

  module _ (z : (0, 0, 0) ≡ said (number_faults asks)) where
    -- past the numbers
    numbers-past : {s : Said} → s ≡ said next → s ≡ says
    numbers-past h = h ∙ says-next (number_faults asks) next (numbers-numbered asks) (sym (ap number_of z))

    -- the columns are few then
    pub columns-few : c ≤ max_columns
    columns-few = (passed asks (sym (ap number_of z))).table.few

    -- no row is new
    pub none-says : none ≡ true → (8, 0, 0) ≡ says
    none-says q = numbers-past (fault-first 8 (fits ++ last) q)

    module _ {k : ℕ} (h : none ≡ false) (q : k ≡ had) where
      -- what the index refuses
      pub index_says : (r : Refusal) → said_by r ≡ said (index_faults w k c) → said_by r ≡ says
      index_says r f =
          numbers-past (refused_first r fits last (f ∙ ap (λ (k : ℕ). said (index_faults w k c)) q) ∙ fault-next 8 (fits ++ last) h)

      module _ (y : (0, 0, 0) ≡ said (index_faults w k c)) where
        -- past the index its header is there
        pub header : 8 ≤ length w
        header = header_there w (fit-tests (words_ok_lem w) w k c (sym (ap number_of y))).0

        -- and what the circles say is said
        pub circles-last : {o : ℕ} {s : Said} → o ≡ circles# w → s ≡ said (circle_faults c o T []) → s ≡ says
        circles-last g r =
            numbers-past
            (r ∙ ap (λ (o : ℕ). said (circle_faults c o T [])) g
            ∙ says-next fits last fits-numbered (sym (ap number_of (y ∙ ap (λ (k : ℕ). said (index_faults w k c)) q)))
            ∙ fault-next 8 (fits ++ last) h)

  -- WITH 0 NOTHING IS WRONG
  pub free : says.0 ≡ 0 → Free T c w room work none had
  unfolding circle_faults
  free z =
      let t = says_none (number_faults asks) next (numbers-numbered asks) z in
      let P = passed asks t.0 in
      let o = rooms (rows_of T c) room work P.room in
      let f = fault-none 8 none (fits ++ last) (omega arith) t.1 in
      let g = says_none fits last fits-numbered f.1 in
      let i = fit-tests (words_ok_lem w) w had c g.0 in
      let off : Bool = off_circle_lem c (circles# w) T || off_circle_lem c (circles# w) [] in
      record {
        table = P.table;
        space = o.0;
        words = o.1;
        some = f.0;
        rows = i.1;
        columns = i.2;
        whole = i.0;
        shape = i.3;
        on = (or_parts (off_circle_lem c (circles# w) T) (off_circle_lem c (circles# w) []) (fault-not 19 off (omega arith) g.1)).0;
      }

  -- AND WHERE NOTHING IS WRONG 0 IS SAID
  pub free_none : Free T c w room work none had → 0 ≡ says.0
  free_none F =
      let n : ℕ = rows_of T c in
      let short : short_of n room work ≡ false = rw (le-ltb room (room_of n) F.space, le-ltb work (6 * n) F.words) in
      let P : Passed asks = record { table = F.table; fit = refl; room = short; like = refl; some = refl } in
      of-circles (passed_none asks P) refl F.some refl (by_shape (words_ok_lem w) w had c F.whole F.rows F.columns (sym F.shape)) refl refl
      (circle-none c (circles# w) T [] F.on (empty_on c (circles# w)))
