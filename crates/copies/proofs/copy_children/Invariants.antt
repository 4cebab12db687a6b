-- `copies::copy_children` meets its contract: i old nodes are copied (`with_copies`).
-- Assumes nothing.
use Prim.Native.Nat.{◌≤◌}
use Rattle.copies.specs.Copies.{copied, with_copies}
use Rattle.measure.specs.Table.{between}
use Rattle.words.specs.Words.{c#, circles#}
use lib.ListN.{length}
use mathlib.Core.Path.{◌≡◌}
use Rattle.copies.proofs.copy_children.Given as goal

abbrev pub invariant-loop-i : goal.invariant-loop-i
invariant-loop-i l =
    (length l.room ≡ length l.initial.room) × (l.i ≤ l.m)
    × (l.room ≡ with_copies (copied (between l.table (c# l.index) (circles# l.index)) l.index l.p.node l.p.added) l.child l.i l.initial.room l.made)
