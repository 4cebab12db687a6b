-- `rounds::nearer_one` meets its contract: both words are what an entry keeps of a new centre (`near_entry`).
use Rattle.measure.specs.Table.{between}
use Rattle.rounds.proofs.Nearing.{near_entry}
use Rattle.rounds.proofs.nearer_one.Goals as goal

pub returns : goal.returns
returns c =
    near_entry (between c.args.table.now c.args.c c.args.circles) c.args.centre _ c.args.entry.now c.requires.2 c.row_distance-d.ensures.0
    c.kept.ensures c.kept-2.ensures
