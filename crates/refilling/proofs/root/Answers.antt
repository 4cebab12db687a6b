-- `refilling::root` meets its contract: the new rows are laid, the root is settled, and its node is written.
-- Assumes nothing.
use Rattle.refilling.proofs.Rooting.{first_long, root_stands, root-takes}
use lib.Seq.{length-take-le}
use mathlib.Core.Path.{sym}
use native.Mathlib.Omega.{arith}
use Rattle.refilling.proofs.root.Goals as goal

pub slice_bounds-settle-end-2 : goal.slice_bounds-settle-end-2
slice_bounds-settle-end-2 c =
    let s = c.requires in
    sym (length-take-le _ _ (omega (arith, first_long s c.take_in-reach.ensures, s.halves)))

pub settle-mark-requires : goal.settle-mark-requires
settle-mark-requires c =
    root-takes c.requires c.take_in-reach.ensures

pub returns : goal.returns
returns c =
    root_stands c.requires c.take_in-reach.ensures c.settle-mark.ensures.settles (rw c.word.ensures at c.put_node.ensures)
