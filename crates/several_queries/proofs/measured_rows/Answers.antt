-- `several_queries::measured_rows` meets its contract: of n how-bytes at most n are counted. Assumes nothing.
use Rattle.several_queries.proofs.Searches.{measured_few}
use Rattle.several_queries.proofs.measured_rows.Goals as goal

pub returns : goal.returns
returns c = (c.tally.ensures.1, measured_few _ _ c.args.how.now c.tally.ensures.1)
