-- `rows_measured::enter_row` meets its contract: a row that is withdrawn is passed by, and one that remains is entered at its distance.
use Rattle.std.proofs.Common.{sym, ◌∙◌}
use Rattle.nearest_steps.proofs.OneRow.{entered}
use Rattle.rows_measured.proofs.enter_row.Goals as goal

pub returns : goal.returns
returns c x how St e near =
    entered x _ _ _ how _ _ St _ c.requires.1 _ e near (sym c.is_in.ensures ∙ c.if-is_in.false) _ _ _ c.turn.ensures c.enter.ensures
