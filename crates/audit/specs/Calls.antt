-- THE FULL CHECK'S CONTRACT, and what its 0 stands for: 01, The tree, full check, and Numbers given back. Assumes nothing.
use Rattle.std.specs.Prelude.{◌%◌, ◌*◌, ◌≤◌, ℕ, length, cond, false, List, ◌≡◌}
use Rattle.audit_refusals.specs.Workspace.{clears}
use Rattle.buffers.specs.Wiped.{wiped}
use Rattle.limits.specs.Limits.{max_columns, max_rows}
use Rattle.measure.specs.Table.{between, off_circle_lem, rows_of}
use Rattle.audit_refusals.specs.Numbers.{said_check}
use Rattle.tree.specs.Check.{Accepted}
use Rattle.words.specs.Words.{c#, circles#, edition#, n#}

-- a check of index w for table T of c columns gives a number and two places, and leaves the workspace as work'
pub record Checks (T : List ℕ) (c : ℕ) (w work work' : List ℕ) (number place second : ℕ) : Type 0 where
  -- 0, or the first refusal or fault by number, then by place
  pub said : number ≡ (said_check T c w (length work)).0
  -- where it is
  pub placed : (place ≡ (said_check T c w (length work)).1) × (second ≡ (said_check T c w (length work)).2)
  -- on 0 and on 10 to 13 the first 6n words are zero and the rest is as it was; on 1 to 9 and on 19 all is
  pub cleared : work' ≡ cond (clears number) (wiped (6 * rows_of T c) work) work

-- no refusal meets the call, the index is the table's, and the full check accepts it
pub record Passed (T : List ℕ) (c : ℕ) (w work : List ℕ) : Type 0 where
  -- not 1
  pub columns : (1 ≤ c) × (c ≤ max_columns)
  -- not 3
  pub multiple : length T % c ≡ 0
  -- not 4
  pub few : rows_of T c ≤ max_rows
  -- not 5
  pub room : 6 * rows_of T c ≤ length work
  -- the header's n is the table's
  pub same_rows : n# w ≡ rows_of T c
  -- the header's c is the table's
  pub same_columns : c# w ≡ c
  -- the header's edition is 2, as in every index in memory
  pub edition : edition# w ≡ 2
  -- not 19: no circular column of the table holds 3,600 or more
  pub circled : off_circle_lem c (circles# w) T ≡ false
  -- words, shape and no fault
  pub accepted : Accepted (between T c (circles# w)) w
