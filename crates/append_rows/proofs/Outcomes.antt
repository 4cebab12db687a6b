-- The call's outcomes: the build of one row, and the index that all rows have joined. Assumes nothing.
use Prim.Native.Nat.{◌*◌, ◌+◌, ◌-◌, ◌<◌, ◌≤◌, ℕ}
use Rattle.append.proofs.Growing.{built-grows, free_builds, passed-grows}
use Rattle.append_refusals.proofs.Faults.{Free}
use Rattle.append_rows_refusals.proofs.Refusals.{clear}
use Rattle.append_rows_refusals.specs.Numbers.{said_append_rows}
use Rattle.append_rows.specs.Calls.{AppendsRows}
use Rattle.append_rows.specs.Putting.{Puttable}
use Rattle.build.specs.Calls.{Builds}
use Rattle.laws.specs.Lists.{range}
use Rattle.limits.specs.Limits.{max_rows}
use Rattle.limits.specs.Said.{Said}
use Rattle.measure.specs.Table.{between, rows_of}
use Rattle.refilling.specs.Joining.{RowsJoin}
use Rattle.swelling.proofs.Turns.{rows_none}
use Rattle.swelling.specs.Rows.{appended_rows, joins}
use Rattle.tree.specs.Build.{build, plant}
use Rattle.tree.specs.Encode.{encode}
use Rattle.words.proofs.InShape.{header_there as header_of}
use Rattle.words.specs.Words.{circles#, l#, m#, n#}
use borrow.Author.Tests.{leb-false}
use lib.Dec.{leb}
use lib.ListN.{drop, get_or, length, take}
use lib.Seq.{length-take-le}
use mathlib.Core.List.{List, ◌++◌}
use mathlib.Core.Path.{◌∙◌, ◌≡◌, ap, sym}
use native.Mathlib.Nat.{mod-add-div}
use mir.Syntax.{w16}
use mir.Val.{Fits}
use native.Mathlib.Omega.{arith}

-- ON AN EMPTY INDEX THE WORDS OF ONE ROW ARE THOSE OF ITS BUILD
pub rows_one : (T : List ℕ) (c : ℕ) (w : List ℕ) → n# w ≡ 0 → rows_of T c ≡ 1 → appended_rows T c w ≡ build T c (circles# w) 2 (m# w) (l# w)
unfolding joins build
rows_one T c w e one =
    let d : ℕ → ℕ → ℕ = between T c (circles# w) in
    rows_none T c w e
    ∙ ap (λ (n : ℕ). encode 2 c (circles# w) (m# w) (l# w) (joins d (m# w) (l# w) (range 1 (n - 1)) (plant d (m# w) (l# w) 1))) one
    ∙ ap (λ (n : ℕ). encode 2 c (circles# w) (m# w) (l# w) (plant d (m# w) (l# w) n)) (sym one)

-- nothing is refused
pub record Passed (T : List ℕ) (c : ℕ) (w room work : List ℕ) : Type 0 where
  pub narrow : (i : ℕ) → get_or T i 0 ≤ 65535
  pub none : (said_append_rows T c w (length room) (length work)).0 ≡ 0

-- the test has passed
pub passed : {T : List ℕ} {c : ℕ} {w : List ℕ} (room work : List ℕ) → ((i : ℕ) → Fits w16 (get_or T i 0))
    → ◌≡◌ {A = Said} (0, 0, 0) (said_append_rows T c w (length room) (length work)) → Passed T c w room work
passed room work narrow e = record { narrow = λ i. omega (arith, narrow i); none = sym (ap (λ (v : Said). v.0) e) }

module _ {T : List ℕ} {c : ℕ} {w room work : List ℕ} (passed : Passed T c w room work) where
  -- every test is passed
  cleared : Free T c w (length room) (length work) (leb (rows_of T c) (n# w)) (n# w)
  cleared = clear T c w (length room) (length work) passed.none

  -- the index has a header
  pub header_there : 8 ≤ length w
  header_there = header_of w cleared.whole

  -- the table has more rows, and few enough
  pub rows_are : (n# w < rows_of T c) × (rows_of T c ≤ max_rows)
  rows_are = (leb-false (rows_of T c) (n# w) cleared.some, cleared.table.rows)

  -- the part of the workspace that is used, k rows being in the table
  pub work_long : {k : ℕ} → k ≡ rows_of T c → 6 * k ≤ length work
  work_long e = omega (arith, cleared.words)

  -- as it is lent
  pub part_long : {k : ℕ} → k ≡ rows_of T c → length (take (6 * k) work) ≡ 6 * k
  part_long {k} e = length-take-le (6 * k) work (work_long e)

  -- the build of one row: the contract is met
  pub built_appends : {k : ℕ} {room' work' : List ℕ} {number words nodes : ℕ} → k ≡ rows_of T c → k ≡ 1
      → Builds T c (circles# w) 2 (m# w) (l# w) room work room' work' number words nodes → AppendsRows T c w room work room' work' number words nodes
  built_appends e one b =
      built-grows passed.narrow passed.none (free_builds cleared) (rows_one T c w (omega (arith, rows_are.0)) (sym e ∙ one)) b

  -- what putting the rows in asks
  pub puttable : {k : ℕ} → k ≡ rows_of T c → (k ≡ 1 → ⊥) → Puttable T c w room (take (6 * k) work)
  puttable {k} e h =
      let C = cleared in
      record {
        wide = (C.table.some, C.table.few);
        rows = omega (arith, mod-add-div (length T) c, C.table.whole);
        few = C.table.rows;
        whole = C.whole;
        shape = C.shape;
        columns = C.columns;
        more = rows_are.0;
        several = omega (arith, several k h (omega (arith, rows_are.0)));
        on = C.on;
        space = C.space;
        halves = part_long e ∙ ap (λ (i : ℕ). 6 * i) e;
      }
    where
      several : (k : ℕ) → (k ≡ 1 → ⊥) → 1 ≤ k → 2 ≤ k
      several k h q = omega arith

  -- all rows have joined: the contract is met
  pub joined_appends : {k nodes words made : ℕ} {room' part' work' : List ℕ} → k ≡ rows_of T c → RowsJoin T c w room (take (6 * k) work) room' part' nodes
      → work' ≡ part' ++ drop (6 * k) work → (words ≡ 8 + 5 * nodes + 2 * k) × (made ≡ nodes)
      → AppendsRows T c w room work room' work' 0 words made
  joined_appends {k} e j h q =
      rw q.1
      (passed-grows passed.narrow passed.none e (omega (arith, rows_are.1)) (work_long e) j.index j.count (omega (arith, j.few))
      (omega (arith, j.long)) j.cleared h q.0)
