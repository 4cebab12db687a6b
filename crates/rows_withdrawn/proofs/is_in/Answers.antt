-- `rows_withdrawn::is_in` meets its contract: the row's word is there and its bit is tested, or no word is there. Assumes nothing.
use Rattle.std.proofs.Common.{refl, sym, ◌∙◌}
use Rattle.rows_withdrawn.proofs.is_in.Goals as goal
use Rattle.rowset.proofs.Rows.{beyond}
use Rattle.rowset.proofs.Shifts.{tested}
use borrow.Author.Tests.{le-ltb}

pub returns-then-at-set : goal.returns-then-at-set
returns-then-at-set c = tested c.args.set.now c.args.r _ _ refl c.mask_of.ensures

pub returns-else-at-set : goal.returns-else-at-set
returns-else-at-set c = le-ltb _ _ c.if-at-set.false ∙ sym (beyond c.args.set.now c.args.r c.if-at-set.false)
