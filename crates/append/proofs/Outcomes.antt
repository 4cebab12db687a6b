-- The call's outcomes: the build of one row, and the index that a row has joined. Assumes nothing.
use Prim.Native.Nat.{◌*◌, ◌+◌, ◌<◌, ◌≤◌, ℕ}
use Rattle.append_refusals.proofs.Refusals.{Clear, clear, freed}
use Rattle.append_refusals.specs.Numbers.{said_append}
use Rattle.appending.proofs.Appending.{append_one}
use Rattle.appending.proofs.Back.{tree-fits}
use Rattle.append.proofs.Growing.{built-grows, free_builds, passed-grows}
use Rattle.append.specs.Calls.{Appends}
use Rattle.build.specs.Calls.{Builds}
use Rattle.build_refusals.specs.Numbers.{room_of}
use Rattle.limits.specs.Limits.{max_rows}
use Rattle.limits.specs.Said.{Said}
use Rattle.measure.specs.Table.{rows_of}
use Rattle.row_joined.specs.Joining.{Joinable, Joins}
use Rattle.words.proofs.Headers.{words-whole}
use Rattle.words.proofs.InShape.{in_shape}
use Rattle.words.specs.InShape.{InShape}
use Rattle.words.specs.Words.{circles#, l#, m#, n#}
use lib.ListN.{drop, get_or, length, take}
use lib.Seq.{length-take-le}
use mathlib.Core.List.{List, ◌++◌}
use mathlib.Core.Path.{◌∙◌, ◌≡◌, ap, subst, sym}
use mir.Syntax.{w16}
use mir.Val.{Fits}
use native.Mathlib.Omega.{arith}

-- ---- nothing is refused
pub record Passed (T : List ℕ) (c : ℕ) (w room work : List ℕ) : Type 0 where
  pub narrow : (i : ℕ) → get_or T i 0 ≤ 65535
  pub none : (said_append T c w (length room) (length work)).0 ≡ 0

-- the test has passed
pub passed : {T : List ℕ} {c : ℕ} {w : List ℕ} (room work : List ℕ) → ((i : ℕ) → Fits w16 (get_or T i 0))
    → ◌≡◌ {A = Said} (0, 0, 0) (said_append T c w (length room) (length work)) → Passed T c w room work
passed room work narrow e = record { narrow = λ i. omega (arith, narrow i); none = sym (ap (λ (v : Said). v.0) e) }

module _ {T : List ℕ} {c : ℕ} {w room work : List ℕ} (passed : Passed T c w room work) where
  -- every test is passed
  cleared : Clear T c w (length room) (length work)
  cleared = clear T c w (length room) (length work) passed.none

  -- the index is in shape
  pub shape_is : InShape w
  shape_is = in_shape w (words-whole w cleared.whole).1 cleared.shape

  -- it has a header
  pub header_there : 8 ≤ length w
  header_there = omega (arith, shape_is.whole.words)

  -- it has one row less than the table, which has few enough
  pub rows_are : (n# w + 1 ≡ rows_of T c) × (n# w + 1 ≤ max_rows)
  rows_are = (cleared.rows, omega (arith, cleared.rows, cleared.table.rows))

  -- the part of the workspace that is used, k rows being in the table
  pub work_long : {k : ℕ} → k ≡ n# w + 1 → 6 * k ≤ length work
  work_long e = omega (arith, cleared.rows, cleared.words)

  -- as it is lent
  pub part_long : {k : ℕ} → k ≡ n# w + 1 → length (take (6 * k) work) ≡ 6 * k
  part_long {k} e = length-take-le (6 * k) work (work_long e)

  -- the build of one row: the contract is met
  pub built_appends : {room' work' : List ℕ} {number words nodes : ℕ} → n# w ≡ 0
      → Builds T c (circles# w) 2 (m# w) (l# w) room work room' work' number words nodes → Appends T c w room work room' work' number words nodes
  built_appends e b =
      built-grows passed.narrow passed.none (free_builds (freed T c w (length room) (length work) passed.none)) (append_one T c w e) b

  -- what joining asks
  pub joinable : {k : ℕ} → k ≡ n# w + 1 → (k ≡ 1 → ⊥) → Joinable T c w room (take (6 * k) work)
  joinable {k} e h =
      let C = cleared in
      record {
        shape = shape_is;
        tree = tree-fits w C.shape;
        edition = (words-whole w C.whole).0;
        columns = C.columns;
        some = omega (arith, more h);
        few = rows_are.1;
        table = subst (λ (i : ℕ). c * i ≤ length T) (sym C.rows) C.table.inside;
        space = subst (λ (i : ℕ). room_of i ≤ length room) (sym C.rows) C.space;
        halves = part_long e ∙ ap (λ (i : ℕ). 6 * i) e;
      }
    where
      more : (k ≡ 1 → ⊥) → 1 < k
      more h = omega arith

  -- the row has joined: the contract is met
  pub joined_appends : {k nodes words made : ℕ} {room' part' work' : List ℕ} → k ≡ n# w + 1 → Joins T c w room (take (6 * k) work) room' part' nodes
      → work' ≡ part' ++ drop (6 * k) work → (words ≡ 8 + 5 * nodes + 2 * k) × (made ≡ nodes)
      → Appends T c w room work room' work' 0 words made
  joined_appends {k} e j h q =
      rw q.1
      (passed-grows passed.narrow passed.none (e ∙ cleared.rows) (omega (arith, rows_are.1)) (work_long e) j.index j.count
      (omega (arith, j.few)) (omega (arith, j.long)) j.cleared h q.0)
