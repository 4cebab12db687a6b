-- `circling::set_of`: one place more.
use Rattle.circle_columns.proofs.Gathering.{set_next}
use Rattle.circling.proofs.set_of.Goals as goal

pub loop-j-preserved : goal.loop-j-preserved
loop-j-preserved c = set_next _ _ _ _ c.loop-j.invariant c.is_said.ensures c.with_bit-set.ensures
