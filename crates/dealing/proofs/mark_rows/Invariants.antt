-- `dealing::mark_rows` meets its contract: the rows before word p are marked (`Marking`).
-- Assumes nothing.
use Prim.Native.Nat.{◌-◌}
use Rattle.dealing.proofs.Marking.{Marking}
use Rattle.dealing.specs.Marked.{Marks}
use lib.ListN.{length}
use Rattle.dealing.proofs.mark_rows.Given as goal

abbrev pub invariant-loop-p : goal.invariant-loop-p
invariant-loop-p l = (T : Marks l.table l.c l.index l.o l.initial.part) → Marking T l.part l.p

abbrev pub decreases-loop-p : goal.decreases-loop-p
decreases-loop-p l = length l.part - l.p
