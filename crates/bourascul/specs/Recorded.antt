-- What a nearest search promises that hands out its answers as records. Assumes nothing.
use Rattle.std.specs.Prelude.{min, ℕ, drop, length, List, ◌++◌, ◌≡◌}
use Rattle.answers.specs.Records.{records}
use Rattle.answers.specs.declared.Answer.{Answer}
use Rattle.nearest.specs.Calls.{Answered}
use Rattle.nearest_steps.specs.Asked.{NearestAsked, NearestLent}

-- what is asked; the records and what else is lent, before and after; the number, and the two counts
pub record Recorded (a : NearestAsked) (as₀ as₁ : List Answer) (b b' : NearestLent) (number given met : ℕ) : Type 0 where
  -- all that the plain call promises, where the records count as room for answers too
  pub plain : Answered a (min (length as₀) (min (length b.rows) (length b.distances))) b b' number given met
  -- 01, Which rows are measured: the records are the answers, each a number with its distance, and those beyond stay
  pub recorded : as₁ ≡ records b'.rows b'.distances given ++ drop given as₀
