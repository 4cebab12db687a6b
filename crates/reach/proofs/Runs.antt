-- A table and an index that were tested: the rows lie in the table. Assumes nothing.
use Prim.Native.Nat.{◌*◌, ◌+◌, ◌<◌, ◌≤◌, ℕ}
use Rattle.measure.proofs.Rows.{row_ends}
use Rattle.tree.specs.Tested.{Tested}
use Rattle.words.specs.Words.{n#}
use lib.ListN.{length}
use mathlib.Core.List.{List}
use native.Mathlib.Nat.{le_trans}

-- a row below n lies in the table
pub in_table : {w T : List ℕ} {c : ℕ} → Tested w T c → (i : ℕ) → i < n# w → c * i + c ≤ length T
in_table {w} {T} {c} t i h = le_trans (row_ends c (n# w) i h) t.table
