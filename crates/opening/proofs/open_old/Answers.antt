-- `opening::open_old` meets its contract: the new rows are marked and dealt out, and the children are copied back.
-- Assumes nothing.
use Rattle.opening.proofs.Olds.{old-done, old-kids, old-marks}
use native.Mathlib.Omega.{arith}
use Rattle.opening.proofs.open_old.Goals as goal

pub mark_rows-requires : goal.mark_rows-requires
mark_rows-requires c =
    old-marks c.requires c.node_count-own.ensures.0 c.columns.ensures.0

pub deal_out-requires : goal.deal_out-requires
deal_out-requires c =
    old-kids c.requires c.node_count-own.ensures.0 c.columns.ensures.0 c.mark_rows.ensures

pub returns : goal.returns
returns c =
    λ g. old-done g c.node_count-own.ensures.0 c.columns.ensures.0 c.mark_rows.ensures c.deal_out.ensures (omega arith)
    c.copy_back.ensures
