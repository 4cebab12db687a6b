-- `bourascul_nearest_answers` meets its contract: the search has room for as many answers as there are records, and these are made of what it hands out.
-- Assumes nothing.
use Rattle.bourascul.proofs.Counts.{given_each}
use Rattle.bourascul.proofs.bourascul_nearest_answers.Goals as goal

pub fill_answers-requires : goal.fill_answers-requires
fill_answers-requires c = given_each c.within-near.ensures c.within-near.auto.rows c.within-near.auto.distances

pub returns : goal.returns
returns c = record { plain = c.within-near.ensures; recorded = c.fill_answers.ensures }
